-- Flat runs over the commands of symbols: so many symbols are to come, and each command read is one less and those straight inside it more.
-- w is the width of an atom's number in bytes. Assumes nothing: these are definitions.
use Rattle.std.specs.Prelude.{ℕ, zero, suc, ◌+◌, List, length, Some, None}
use Rattle.parse_tree.specs.Plain.Tree.{Text, Sym, Syms, leaf, around, over, nil, cons, count}
use Rattle.parse_tree.specs.Working.Nodes.{node_at, size_of}
use Rattle.parse_tree.specs.Working.Operands.{inside}
use Rattle.parse_tree.specs.Working.Encode.{leaf_node, around_node, over_node, sym_bytes}
use Rattle.parse_tree.specs.declared.syntax.SymbolKind.{SymbolKind}
use Rattle.parse_tree.specs.declared.syntax.Node.{Node}

-- the command of a symbol; ts are the atoms
unfoldable pub sym_node : List Text → Sym → Node
sym_node ts (leaf s l) = Node.Symbol s (SymbolKind.Leaf (leaf_node ts l))
sym_node ts (around s a x) = Node.Symbol s (SymbolKind.Around (around_node ts a))
sym_node ts (over s o xs) = Node.Symbol s (SymbolKind.Over (over_node ts o (count xs)))

-- the symbols straight inside it
unfoldable pub children : Sym → Syms
children (leaf s l) = nil
children (around s a x) = cons x nil
children (over s o xs) = xs

unfoldable pub joined : Syms → Syms → Syms
joined nil ys = ys
joined (cons x xs) ys = cons x (joined xs ys)

-- how many symbols there are in all
unfoldable mutual
  pub nodes : Sym → ℕ
  nodes (leaf s l) = 1
  nodes (around s a x) = suc (nodes x)
  nodes (over s o xs) = suc (nodes_all xs)

  pub nodes_all : Syms → ℕ
  nodes_all nil = 0
  nodes_all (cons x xs) = nodes x + nodes_all xs

-- an effect on a state: of the command n at a place
module _ (w : ℕ) {A : Type 0} (effect : A → ℕ → Node → A) where
  -- on the symbols of a tree that begins at a place, in prefix order
  module _ (ts : List Text) where
    unfoldable mutual
      pub fold_sym : Sym → A → ℕ → A
      fold_sym (leaf s l) acc at = effect acc at (sym_node ts (leaf s l))
      fold_sym (around s a x) acc at = fold_sym x (effect acc at (sym_node ts (around s a x))) (at + size_of w (sym_node ts (around s a x)))
      fold_sym (over s o xs) acc at = fold_syms xs (effect acc at (sym_node ts (over s o xs))) (at + size_of w (sym_node ts (over s o xs)))

      pub fold_syms : Syms → A → ℕ → A
      fold_syms nil acc at = acc
      fold_syms (cons x xs) acc at = fold_syms xs (fold_sym x acc at) (at + length (sym_bytes w ts x))

  -- on k symbols from a place on, in at most so many steps: the state, and the place behind; `bytes` are those that the state holds now
  unfoldable pub run : (A → List ℕ) → ℕ → ℕ → A → ℕ → A × ℕ
  run bytes zero k acc at = (acc, at)
  run bytes (suc f) zero acc at = (acc, at)
  run bytes (suc f) (suc k) acc at = elim (node_at w (bytes acc) at) [
    | None ↦ run bytes f k acc at
    | Some n ↦ run bytes f (k + inside n) (effect acc at n) (at + size_of w n)
  ]

-- the place behind k symbols, in at most so many steps
unfoldable pub skip : ℕ → List ℕ → ℕ → ℕ → ℕ → ℕ
skip w s zero k at = at
skip w s (suc f) zero at = at
skip w s (suc f) (suc k) at = elim (node_at w s at) [ None ↦ skip w s f k at | Some n ↦ skip w s f (k + inside n) (at + size_of w n) ]
