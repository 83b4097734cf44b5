-- A 20 becomes a 21 or a 24, in the tree and in its bytes. Assumes nothing: these are definitions.
use Rattle.std.specs.Prelude.{ℕ, Bool, List, set}
use Rattle.octets.specs.Working.Choice.{pick}
use Rattle.parse_tree.specs.Plain.Tree.{Text, Leaf, Sym, Syms, ambiguous, bare, quoted, regex, nonterminal, lookahead, lookbehind, error, leaf, around, over, nil, cons}
use Rattle.parse_tree.specs.Plain.Texts.{number}
use Rattle.parse_tree.specs.declared.syntax.Leaf.{Leaf as LeafNode}
use Rattle.parse_tree.specs.declared.syntax.SymbolKind.{SymbolKind}
use Rattle.parse_tree.specs.declared.syntax.Node.{Node}

-- which atoms are names of terminals, by number
module _ (terminal : ℕ → Bool) where
  -- ---- in the tree; ts are the atoms
  module _ (ts : List Text) where
    unfoldable pub rewritten_leaf : Leaf → Leaf
    rewritten_leaf (ambiguous n) = pick (terminal (number ts n)) (bare n) (nonterminal n)
    rewritten_leaf (bare n) = bare n
    rewritten_leaf (quoted t) = quoted t
    rewritten_leaf (regex t) = regex t
    rewritten_leaf (nonterminal n) = nonterminal n
    rewritten_leaf lookahead = lookahead
    rewritten_leaf lookbehind = lookbehind
    rewritten_leaf error = error

    unfoldable mutual
      pub rewritten : Sym → Sym
      rewritten (leaf s l) = leaf s (rewritten_leaf l)
      rewritten (around s a x) = around s a (rewritten x)
      rewritten (over s o xs) = over s o (rewritten_all xs)

      pub rewritten_all : Syms → Syms
      rewritten_all nil = nil
      rewritten_all (cons x xs) = cons (rewritten x) (rewritten_all xs)

  -- ---- in the bytes: one byte for each 20
  unfoldable pub patch_leaf : List ℕ → ℕ → LeafNode → List ℕ
  patch_leaf s at (LeafNode.AmbiguousId a) = set s at (pick (terminal a.0) 33 36)
  patch_leaf s at (LeafNode.Bare a) = s
  patch_leaf s at (LeafNode.Quoted a) = s
  patch_leaf s at (LeafNode.Regex a) = s
  patch_leaf s at (LeafNode.Nonterminal a) = s
  patch_leaf s at LeafNode.Lookahead = s
  patch_leaf s at LeafNode.Lookbehind = s
  patch_leaf s at LeafNode.Error = s

  abbrev pub patch_kind : List ℕ → ℕ → SymbolKind → List ℕ
  patch_kind s at (SymbolKind.Leaf l) = patch_leaf s at l
  patch_kind s at (SymbolKind.Around a) = s
  patch_kind s at (SymbolKind.Over o) = s

  unfoldable pub patch : List ℕ → ℕ → Node → List ℕ
  patch s at (Node.Text n) = s
  patch s at (Node.Nonterminal d) = s
  patch s at (Node.Terminal t) = s
  patch s at (Node.Argument n) = s
  patch s at (Node.Alternative a) = s
  patch s at (Node.Attribute a) = s
  patch s at (Node.Condition c) = s
  patch s at (Node.Symbol sp k) = patch_kind s at k
