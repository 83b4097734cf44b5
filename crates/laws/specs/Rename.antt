-- Occurrences of a nonterminal renamed in place, counted on. Assumes nothing: these are definitions.
use Rattle.std.specs.Prelude.{ℕ, suc, ◌+◌, cond, List, eqb}
use Rattle.octets.specs.Plain.Numbers.{le}
use Rattle.octets.specs.Working.Stores.{store}
use Rattle.parse_tree.specs.declared.syntax.Leaf.{Leaf as LeafNode}
use Rattle.parse_tree.specs.declared.syntax.SymbolKind.{SymbolKind}
use Rattle.parse_tree.specs.declared.syntax.Node.{Node}

-- the bytes, and how many occurrences were met; occurrence j of the atom `target` becomes the atom f j
module _ (w target : ℕ) (f : ℕ → ℕ) where
  unfoldable pub rename_leaf : List ℕ × ℕ → ℕ → LeafNode → List ℕ × ℕ
  rename_leaf σ at (LeafNode.AmbiguousId a) = σ
  rename_leaf σ at (LeafNode.Bare a) = σ
  rename_leaf σ at (LeafNode.Quoted a) = σ
  rename_leaf σ at (LeafNode.Regex a) = σ
  rename_leaf σ at (LeafNode.Nonterminal a) = cond (eqb a.0 target) (store σ.0 (at + 9) (le w (f σ.1)), suc σ.1) σ
  rename_leaf σ at LeafNode.Lookahead = σ
  rename_leaf σ at LeafNode.Lookbehind = σ
  rename_leaf σ at LeafNode.Error = σ

  abbrev pub rename_kind : List ℕ × ℕ → ℕ → SymbolKind → List ℕ × ℕ
  rename_kind σ at (SymbolKind.Leaf l) = rename_leaf σ at l
  rename_kind σ at (SymbolKind.Around a) = σ
  rename_kind σ at (SymbolKind.Over o) = σ

  unfoldable pub rename : List ℕ × ℕ → ℕ → Node → List ℕ × ℕ
  rename σ at (Node.Text n) = σ
  rename σ at (Node.Nonterminal d) = σ
  rename σ at (Node.Terminal t) = σ
  rename σ at (Node.Argument n) = σ
  rename σ at (Node.Alternative a) = σ
  rename σ at (Node.Attribute a) = σ
  rename σ at (Node.Condition c) = σ
  rename σ at (Node.Symbol sp k) = rename_kind σ at k
