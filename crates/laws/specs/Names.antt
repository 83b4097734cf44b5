-- Names looked up in place: each command of a symbol is asked, and the first refusal stays. Assumes nothing: these are definitions.
use Rattle.std.specs.Prelude.{ℕ, zero, suc, cond, List, eqb, set}
use Rattle.std.proofs.Math.Option.{Option, none, some}
use Rattle.parse_tree.specs.declared.syntax.Span.{Span}
use Rattle.parse_tree.specs.declared.syntax.Leaf.{Leaf as LeafNode}
use Rattle.parse_tree.specs.declared.syntax.Over.{Over as OverNode}
use Rattle.parse_tree.specs.declared.syntax.SymbolKind.{SymbolKind}
use Rattle.parse_tree.specs.declared.syntax.Node.{Node}
use Rattle.passes.specs.Resolve.{Def, terminal_def, nonterminal_def, argument_def}

-- the bytes so far; or a refusal, the question's number and the span, and the bytes there
pub data State : Type 0 where
  fine : List ℕ → State
  refused : ℕ → Span → List ℕ → State

abbrev pub bytes_of : State → List ℕ
bytes_of (fine s) = s
bytes_of (refused q sp s) = s

-- ---- s are the bytes, the command stands at a place with a span; the definition is that of its name
unfoldable pub ask_ambiguous : List ℕ → ℕ → Span → Option Def → State
ask_ambiguous s at sp none = refused 8 sp s
ask_ambiguous s at sp (some terminal_def) = fine (set s at 33)
ask_ambiguous s at sp (some (nonterminal_def zero)) = fine (set s at 36)
ask_ambiguous s at sp (some (nonterminal_def (suc k))) = refused 13 sp s
ask_ambiguous s at sp (some argument_def) = fine (set s at 36)

unfoldable pub ask_nonterminal : List ℕ → Span → Option Def → State
ask_nonterminal s sp none = refused 8 sp s
ask_nonterminal s sp (some terminal_def) = refused 10 sp s
ask_nonterminal s sp (some (nonterminal_def zero)) = fine s
ask_nonterminal s sp (some (nonterminal_def (suc k))) = refused 10 sp s
ask_nonterminal s sp (some argument_def) = fine s

unfoldable pub ask_macro : List ℕ → Span → ℕ → Option Def → State
ask_macro s sp k none = refused 8 sp s
ask_macro s sp k (some terminal_def) = refused 11 sp s
ask_macro s sp k (some (nonterminal_def zero)) = refused 11 sp s
ask_macro s sp k (some (nonterminal_def (suc j))) = cond (eqb (suc j) k) (fine s) (refused 12 sp s)
ask_macro s sp k (some argument_def) = refused 11 sp s

-- the definition of an atom by its number, arguments of the item at hand first
module _ (look : ℕ → Option Def) where
  unfoldable pub ask_leaf : List ℕ → ℕ → Span → LeafNode → State
  ask_leaf s at sp (LeafNode.AmbiguousId a) = ask_ambiguous s at sp (look a.0)
  ask_leaf s at sp (LeafNode.Bare a) = fine s
  ask_leaf s at sp (LeafNode.Quoted a) = fine s
  ask_leaf s at sp (LeafNode.Regex a) = fine s
  ask_leaf s at sp (LeafNode.Nonterminal a) = ask_nonterminal s sp (look a.0)
  ask_leaf s at sp LeafNode.Lookahead = fine s
  ask_leaf s at sp LeafNode.Lookbehind = fine s
  ask_leaf s at sp LeafNode.Error = fine s

  unfoldable pub ask_over : List ℕ → Span → OverNode → State
  ask_over s sp (OverNode.Macro a k) = ask_macro s sp k (look a.0)
  ask_over s sp (OverNode.Group k) = fine s

  abbrev pub ask_kind : List ℕ → ℕ → Span → SymbolKind → State
  ask_kind s at sp (SymbolKind.Leaf l) = ask_leaf s at sp l
  ask_kind s at sp (SymbolKind.Around a) = fine s
  ask_kind s at sp (SymbolKind.Over o) = ask_over s sp o

  abbrev pub ask_node : List ℕ → ℕ → Node → State
  ask_node s at (Node.Text n) = fine s
  ask_node s at (Node.Nonterminal d) = fine s
  ask_node s at (Node.Terminal t) = fine s
  ask_node s at (Node.Argument n) = fine s
  ask_node s at (Node.Alternative a) = fine s
  ask_node s at (Node.Attribute a) = fine s
  ask_node s at (Node.Condition c) = fine s
  ask_node s at (Node.Symbol sp k) = ask_kind s at sp k

  -- the effect of a flat run
  unfoldable pub ask_name : State → ℕ → Node → State
  ask_name (fine s) at n = ask_node s at n
  ask_name (refused q sp s) at n = refused q sp s
