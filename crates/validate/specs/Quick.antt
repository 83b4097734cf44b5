-- What a look at the bytes of a command finds out. Assumes nothing: these are definitions.
use Rattle.std.specs.Prelude.{◌≡◌, true, List, ℕ, ◌+◌, ◌-◌, ◌<◌, ◌≤◌, length, get_or, Some, Ok}
use Rattle.octets.specs.Working.Choice.{pick}
use Rattle.octets.specs.Plain.Numbers.{le_at}
use Rattle.parse_tree.specs.Working.Nodes.{symbol_node_at, span_in, size_of, alternative_here, nonterminal_here}
use Rattle.parse_tree.specs.Working.Places.{items_place, alternatives_place, symbols_place}
use Rattle.parse_tree.specs.Working.Questions.{symbol_defined, symbol_suits}
use Rattle.parse_tree.specs.Plain.Reading.{got, times}
use Rattle.parse_tree.specs.Working.Decode.{ask, read_sym}
use Rattle.parse_tree.specs.declared.syntax.SymbolKind.{SymbolKind}
use Rattle.parse_tree.specs.declared.syntax.TerminalData.{TerminalData}
use Rattle.parse_tree.specs.declared.syntax.Alternative.{Alternative}
use Rattle.parse_tree.specs.declared.syntax.NonterminalData.{NonterminalData}
use Rattle.parse_tree.specs.declared.syntax.Node.{Node}
use Rattle.texts.specs.Atoms.{atoms_of}
use Rattle.validate.specs.Steps.{step_of}
use Rattle.validate.specs.declared.Atoms.{Atoms}

-- c is the code at a place from which on n bytes are left, that byte among them
pub record CodeAt (s : List ℕ) (at n c : ℕ) : Type 0 where
  pub is : c ≡ get_or s at 0
  pub inside : at < length s
  pub room : n ≤ length s - at

-- the symbol whose code is c and stands at a place passes 3 and 4, in r bytes
pub record Kinded (s : List ℕ) (m : Atoms) (c at r : ℕ) : Type 0 where
  pub kind : SymbolKind
  pub is : symbol_node_at m.width.bytes c s at ≡ Some (Node.Symbol (span_in s (at + 1)) kind)
  pub defined : symbol_defined m.texts.count kind ≡ true
  pub suited : pick m.four (symbol_suits (atoms_of s m.texts.count) kind) true ≡ true
  pub long : r ≡ size_of m.width.bytes (Node.Symbol (span_in s (at + 1)) kind)
  pub small : r ≤ 10 + m.width.bytes

-- the symbol at a place passes 2, 3 and 4, and its command ends at r
pub record QuickPassed (s : List ℕ) (m : Atoms) (left at r : ℕ) : Type 0 where
  pub kind : SymbolKind
  pub is : symbol_node_at m.width.bytes (get_or s at 0) s at ≡ Some (Node.Symbol (span_in s (at + 1)) kind)
  pub asked : ask m.four m.width.bytes s (atoms_of s m.texts.count) symbols_place left at ≡ got (Node.Symbol (span_in s (at + 1)) kind) r
  pub room : at + (10 + m.width.bytes) ≤ length s
  pub deep : 0 < left

-- the n symbols from a place on are read and end at r
pub record QuickInside (s : List ℕ) (m : Atoms) (left n at r : ℕ) : Type 0 where
  pub passed : step_of (times (read_sym m.four m.width.bytes s (atoms_of s m.texts.count) left) n at) ≡ Ok r

-- the alternative at a place, which is a, passes 2, 3 and 4
pub record PassedAlternative (s : List ℕ) (m : Atoms) (at : ℕ) (a : Alternative) : Type 0 where
  pub here : a ≡ alternative_here m.width.bytes s at
  pub asked : ask m.four m.width.bytes s (atoms_of s m.texts.count) alternatives_place 1 at ≡ got (Node.Alternative a) (at + (14 + m.width.bytes))
  pub room : at + (14 + m.width.bytes) ≤ length s

-- the command of a nonterminal at a place, which is d, passes 2, 3 and 4
pub record PassedNonterminal (s : List ℕ) (m : Atoms) (at : ℕ) (d : NonterminalData) : Type 0 where
  pub here : d ≡ nonterminal_here m.width.bytes s at
  pub asked : ask m.four m.width.bytes s (atoms_of s m.texts.count) items_place 1 at ≡ got (Node.Nonterminal d) (at + (13 + m.width.bytes))
  pub room : at + (13 + m.width.bytes) ≤ length s

-- the terminal that the bytes at a place say
unfoldable pub terminal_here : ℕ → List ℕ → ℕ → TerminalData
terminal_here w s at = record { span = span_in s (at + 1); name = record { 0 = le_at w s (at + 9) }; source = get_or s at 0 }

-- the terminal at a place passes 2, 3 and 4, and ends at r
pub record PassedTerminal (s : List ℕ) (m : Atoms) (at r : ℕ) : Type 0 where
  pub asked : ask m.four m.width.bytes s (atoms_of s m.texts.count) items_place 1 at ≡ got (Node.Terminal (terminal_here m.width.bytes s at)) r
  pub long : r ≡ at + (9 + m.width.bytes)
  pub room : at + (9 + m.width.bytes) ≤ length s

-- a command stands at a place that passes 2, 3 and 4, and ends at r
pub record PassedCommand (s : List ℕ) (m : Atoms) (place at r : ℕ) : Type 0 where
  pub command : Node
  pub asked : ask m.four m.width.bytes s (atoms_of s m.texts.count) place 1 at ≡ got command r
