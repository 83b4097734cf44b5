-- How many bytes each command has. Assumes nothing.
use mathlib.Core.Path.{◌≡◌}
use mathlib.Core.Bool.{true}
use Prim.Native.Nat.{ℕ, ◌+◌, ◌<◌}
use native.Mathlib.Omega.{arith}
use borrow.Author.Rules.{rules}
use lib.ListN.{length, length-append}
use Rattle.octets.proofs.NumbersLaws.{length-le}
use Rattle.parse_tree.specs.Working.Nodes.{span_bytes, leaf_operand, symbol_bytes, node_bytes, size_of, size_read}
use Rattle.std.specs.Prelude.{Option, Some, None}
use Rattle.parse_tree.specs.Working.Questions.{defined}
use Rattle.parse_tree.specs.declared.syntax.Span.{Span}
use Rattle.parse_tree.specs.declared.syntax.Atom.{Atom}
use Rattle.parse_tree.specs.declared.syntax.NonterminalString.{NonterminalString}
use Rattle.parse_tree.specs.declared.syntax.TerminalString.{TerminalString}
use Rattle.parse_tree.specs.declared.syntax.NonterminalData.{NonterminalData}
use Rattle.parse_tree.specs.declared.syntax.TerminalData.{TerminalData}
use Rattle.parse_tree.specs.declared.syntax.Alternative.{Alternative}
use Rattle.parse_tree.specs.declared.syntax.Attribute.{Attribute}
use Rattle.parse_tree.specs.declared.syntax.Condition.{Condition}
use Rattle.parse_tree.specs.declared.syntax.Leaf.{Leaf}
use Rattle.parse_tree.specs.declared.syntax.Around.{Around}
use Rattle.parse_tree.specs.declared.syntax.Over.{Over}
use Rattle.parse_tree.specs.declared.syntax.SymbolKind.{SymbolKind}
use Rattle.parse_tree.specs.declared.syntax.Node.{Node}

pub length_span : (s : Span) → length (span_bytes s) ≡ 8
unfolding span_bytes
length_span s = simp (length-append, length-le) (omega arith)

-- ---- a leaf
module _ (w : ℕ) (l : Leaf) where
  pub ambiguous_size : (a : Atom) → l ≡ Leaf.AmbiguousId a → w ≡ length (leaf_operand w l)
  unfolding leaf_operand
  ambiguous_size a e = rw (e, length-le w a.0)

  pub bare_size : (a : TerminalString) → l ≡ Leaf.Bare a → w ≡ length (leaf_operand w l)
  unfolding leaf_operand
  bare_size a e = rw (e, length-le w a.0)

  pub quoted_size : (a : Atom) → l ≡ Leaf.Quoted a → w ≡ length (leaf_operand w l)
  unfolding leaf_operand
  quoted_size a e = rw (e, length-le w a.0)

  pub regex_size : (a : Atom) → l ≡ Leaf.Regex a → w ≡ length (leaf_operand w l)
  unfolding leaf_operand
  regex_size a e = rw (e, length-le w a.0)

  pub nonterminal_leaf_size : (a : NonterminalString) → l ≡ Leaf.Nonterminal a → w ≡ length (leaf_operand w l)
  unfolding leaf_operand
  nonterminal_leaf_size a e = rw (e, length-le w a.0)

  pub lookahead_size : l ≡ Leaf.Lookahead → 0 ≡ length (leaf_operand w l)
  unfolding leaf_operand
  lookahead_size e = rw e

  pub lookbehind_size : l ≡ Leaf.Lookbehind → 0 ≡ length (leaf_operand w l)
  unfolding leaf_operand
  lookbehind_size e = rw e

  pub error_size : l ≡ Leaf.Error → 0 ≡ length (leaf_operand w l)
  unfolding leaf_operand
  error_size e = rw e

-- ---- a command
module _ (w : ℕ) (n : Node) where
  pub text_size : (k : ℕ) → n ≡ Node.Text k → 3 ≡ size_of w n
  unfolding size_of node_bytes
  text_size k e = rw e (simp length-le (omega arith))

  pub nonterminal_size : (d : NonterminalData) → n ≡ Node.Nonterminal d → 13 + w ≡ size_of w n
  unfolding size_of node_bytes
  nonterminal_size d e = rw e (simp (length-append, length-le, length_span) (omega arith))

  pub terminal_size : (d : TerminalData) → n ≡ Node.Terminal d → 9 + w ≡ size_of w n
  unfolding size_of node_bytes
  terminal_size d e = rw e (simp (length-append, length-le, length_span) (omega arith))

  pub argument-size : (d : NonterminalString) → n ≡ Node.Argument d → 1 + w ≡ size_of w n
  unfolding size_of node_bytes
  argument-size d e = rw e (simp length-le (omega arith))

  pub alternative_size : (d : Alternative) → n ≡ Node.Alternative d → 14 + w ≡ size_of w n
  unfolding size_of node_bytes
  alternative_size d e = rw e (simp (length-append, length-le, length_span) (omega arith))

  pub attribute_size : (d : Attribute) → n ≡ Node.Attribute d → 2 + w + w + w ≡ size_of w n
  unfolding size_of node_bytes
  attribute_size d e = rw e (simp (length-append, length-le) (omega arith))

  pub condition_size : (d : Condition) → n ≡ Node.Condition d → 10 + w + w ≡ size_of w n
  unfolding size_of node_bytes
  condition_size d e = rw e (simp (length-append, length-le, length_span) (omega arith))

-- ---- a symbol
module _ (w : ℕ) (n : Node) (s : Span) (k : SymbolKind) (p : n ≡ Node.Symbol s k) where
  pub leaf_size : (l : Leaf) (m : ℕ) → k ≡ SymbolKind.Leaf l → m ≡ length (leaf_operand w l) → 9 + m ≡ size_of w n
  unfolding size_of node_bytes symbol_bytes
  leaf_size l m q e = rw (p, q, e) (simp (length-append, length_span) (omega arith))

  pub repeat_size : (a : Around) (op : ℕ) → k ≡ SymbolKind.Around a → a ≡ Around.Repeat op → 10 ≡ size_of w n
  unfolding size_of node_bytes symbol_bytes
  repeat_size a op q e = rw (p, q, e) (simp (length-append, length_span) (omega arith))

  pub choose_size : (a : Around) → k ≡ SymbolKind.Around a → a ≡ Around.Choose → 9 ≡ size_of w n
  unfolding size_of node_bytes symbol_bytes
  choose_size a q e = rw (p, q, e) (simp length_span (omega arith))

  pub name_size : (a : Around) (m : ℕ) (x : Atom) → k ≡ SymbolKind.Around a → a ≡ Around.Name m x → 10 + w ≡ size_of w n
  unfolding size_of node_bytes symbol_bytes
  name_size a m x q e = rw (p, q, e) (simp (length-append, length-le, length_span) (omega arith))

  pub macro_size : (o : Over) (x : NonterminalString) (m : ℕ) → k ≡ SymbolKind.Over o → o ≡ Over.Macro x m → 10 + w ≡ size_of w n
  unfolding size_of node_bytes symbol_bytes
  macro_size o x m q e = rw (p, q, e) (simp (length-append, length-le, length_span) (omega arith))

  pub group_size : (o : Over) (m : ℕ) → k ≡ SymbolKind.Over o → o ≡ Over.Group m → 11 ≡ size_of w n
  unfolding size_of node_bytes symbol_bytes
  group_size o m q e = rw (p, q, e) (simp (length-append, length-le, length_span) (omega arith))

-- ---- what was read
module _ (w : ℕ) (y : Option Node) where
  pub no_size : y ≡ None → 0 ≡ size_read w y
  no_size e = rw e

  pub some_size : (n : Node) → y ≡ Some n → (r : ℕ) → r ≡ size_of w n → r ≡ size_read w y
  some_size n e r p = rw e p

pub ruleset sizing = (rules, no_size, some_size, ambiguous_size, bare_size, quoted_size, regex_size, nonterminal_leaf_size, lookahead_size, lookbehind_size, error_size, text_size, nonterminal_size, terminal_size, argument-size, alternative_size, attribute_size, condition_size, leaf_size, repeat_size, choose_size, name_size, macro_size, group_size)

-- a command that is known has a byte
symbol_positive : (w : ℕ) (sp : Span) (k : SymbolKind) → 0 < length (symbol_bytes w sp k)
unfolding symbol_bytes
symbol_positive w sp (SymbolKind.Leaf l) = omega arith
symbol_positive w sp (SymbolKind.Around (Around.Repeat op)) = omega arith
symbol_positive w sp (SymbolKind.Around Around.Choose) = omega arith
symbol_positive w sp (SymbolKind.Around (Around.Name m n)) = omega arith
symbol_positive w sp (SymbolKind.Over (Over.Macro n k)) = omega arith
symbol_positive w sp (SymbolKind.Over (Over.Group k)) = omega arith

pub node_positive : (w k : ℕ) (n : Node) → defined k n ≡ true → 0 < length (node_bytes w n)
unfolding defined node_bytes
node_positive w k (Node.Text n) d = omega arith
node_positive w k (Node.Nonterminal n) d = omega arith
node_positive w k (Node.Terminal t) d = omega arith
node_positive w k (Node.Argument n) d = omega arith
node_positive w k (Node.Alternative n) d = omega arith
node_positive w k (Node.Attribute n) d = omega arith
node_positive w k (Node.Condition c) d = omega arith
node_positive w k (Node.Symbol sp n) d = symbol_positive w sp n
