-- Counts over trees against their bytes: what the sums of Room ask. Assumes nothing.
use mathlib.Core.Path.{◌≡◌}
use mathlib.Core.List.{List, [], ◌∷◌, ◌++◌}
use Prim.Native.Nat.{ℕ, ◌+◌, ◌*◌, ◌≤◌}
use native.Mathlib.Omega.{arith}
use lib.ListN.{length, length-append}
use Rattle.octets.proofs.NumbersLaws.{length-le}
use Rattle.parse_tree.specs.Plain.Tree.{Text, Leaf, Around, Sym, Syms, ambiguous, bare, quoted, regex, nonterminal, lookahead, lookbehind, error, repeat, choose, name, leaf, around, over, nil, cons, count, Alternative, Nonterminal, Item, item, conditions}
use Rattle.parse_tree.specs.Plain.Texts.{number}
use Rattle.parse_tree.specs.Working.Nodes.{node_bytes}
use Rattle.parse_tree.specs.Working.Encode.{alternative_node, nonterminal_node, syms_bytes, alternative_bytes, item_bytes, attribute_bytes, condition_bytes, argument_bytes, source_code}
use Rattle.parse_tree.specs.Plain.WriteTape.{bytes_of_each}
use Rattle.parse_tree.specs.declared.syntax.Node.{Node}
use Rattle.parse_tree.proofs.SizeLaws.{length_span}
use Rattle.laws.specs.Flat.{nodes, nodes_all}
use Rattle.laws.specs.Counts.{looks_leaf, looks, looks_all, repeats, count_expanded, count_expanded_all, heads_in, heads, over_alternatives, over_items}
use Rattle.laws.proofs.Flat.{nodes_all_few}

-- ---- what is replaced, and what grows, is a symbol
leaf_looks : (l : Leaf) → looks_leaf l ≤ 1
leaf_looks (ambiguous n) = omega arith
leaf_looks (bare n) = omega arith
leaf_looks (quoted t) = omega arith
leaf_looks (regex t) = omega arith
leaf_looks (nonterminal n) = omega arith
leaf_looks lookahead = omega arith
leaf_looks lookbehind = omega arith
leaf_looks error = omega arith

around_repeats : (a : Around) → repeats a ≤ 1
around_repeats (repeat o) = omega arith
around_repeats choose = omega arith
around_repeats (name m n) = omega arith

mutual
  unfolding count_expanded nodes

  pub expanded_few : (x : Sym) → count_expanded x ≤ nodes x
  expanded_few (leaf s l) = leaf_looks l
  expanded_few (around s a x) = omega (arith, around_repeats a, expanded_few x)
  expanded_few (over s o xs) = omega (arith, expanded_all_few xs)

  pub expanded_all_few : (xs : Syms) → count_expanded_all xs ≤ nodes_all xs
  expanded_all_few nil = omega arith
  expanded_all_few (cons x xs) = omega (arith, expanded_few x, expanded_all_few xs)

mutual
  unfolding looks nodes

  pub looks_few : (x : Sym) → looks x ≤ nodes x
  looks_few (leaf s l) = leaf_looks l
  looks_few (around s a x) = omega (arith, looks_few x)
  looks_few (over s o xs) = omega (arith, looks_all_few xs)

  pub looks_all_few : (xs : Syms) → looks_all xs ≤ nodes_all xs
  looks_all_few nil = omega arith
  looks_all_few (cons x xs) = omega (arith, looks_few x, looks_all_few xs)

pub nodes_some : (x : Sym) → 1 ≤ nodes x
unfolding nodes
nodes_some (leaf s l) = omega arith
nodes_some (around s a x) = omega arith
nodes_some (over s o xs) = omega arith

abbrev pub around_size : Around → ℕ
around_size (repeat o) = 10
around_size choose = 9
around_size (name m n) = 12

count-few : (xs : Syms) → count xs ≤ nodes_all xs
unfolding count nodes_all
count-few nil = omega arith
count-few (cons x xs) = omega (arith, nodes_some x, count-few xs)

-- ---- the commands of items and alternatives, and nine bytes for each symbol, are among the bytes
module _ (ts : List Text) where
  pub head_size : (a : Alternative) → length (node_bytes 2 (alternative_node ts a)) ≡ 16
  unfolding node_bytes alternative_node
  head_size a = simp (length-append, length-le, length_span) (omega arith)

  alternative_few : (a : Alternative) → 16 + 9 * nodes_all a.symbols ≤ length (alternative_bytes 2 ts a)
  unfolding alternative_bytes
  alternative_few a =
      let n = node_bytes 2 (alternative_node ts a) in
      let as' = bytes_of_each (attribute_bytes 2 ts) a.attributes in
      let cs = bytes_of_each (condition_bytes 2 ts) (conditions a.condition) in
      let xs = syms_bytes 2 ts a.symbols in
      omega (arith, head_size a, nodes_all_few 2 ts a.symbols, length-append n (as' ++ (cs ++ xs)), length-append as' (cs ++ xs), length-append cs xs)

  alternatives_few : (as' : List Alternative) → heads_in as' + 9 * over_alternatives nodes_all as' ≤ length (bytes_of_each (alternative_bytes 2 ts) as')
  unfolding heads_in over_alternatives bytes_of_each
  alternatives_few [] = omega arith
  alternatives_few (a ∷ as') = omega (arith, alternative_few a, alternatives_few as', length-append (alternative_bytes 2 ts a) (bytes_of_each (alternative_bytes 2 ts) as'))

  pub item_head_lem : (d : Nonterminal) → length (node_bytes 2 (nonterminal_node ts d)) ≡ 15
  unfolding node_bytes nonterminal_node
  item_head_lem d = simp (length-append, length-le, length_span) (omega arith)

  pub items_few : (is : List Item) → heads is + 9 * over_items nodes_all is ≤ length (bytes_of_each (item_bytes 2 ts) is)
  unfolding heads over_items item_bytes bytes_of_each
  items_few [] = omega arith
  items_few (item d ∷ is) =
      let n = node_bytes 2 (nonterminal_node ts d) in
      let ps = bytes_of_each (argument_bytes 2 ts) d.args in
      let bs = bytes_of_each (alternative_bytes 2 ts) d.alternatives in
      omega (arith, item_head_lem d, alternatives_few d.alternatives, items_few is, length-append n (ps ++ bs), length-append ps bs, length-append (n ++ (ps ++ bs)) (bytes_of_each (item_bytes 2 ts) is))
  items_few (Item.terminal s o x ∷ is) =
      omega (arith, items_few is, length-append (node_bytes 2 (Node.Terminal (record { span = s; name = record { 0 = number ts x }; source = source_code o }))) (bytes_of_each (item_bytes 2 ts) is))

-- a count that is at most another, over items
pub over_items_less : (f g : Syms → ℕ) → ((xs : Syms) → f xs ≤ g xs) → (is : List Item) → over_items f is ≤ over_items g is
unfolding over_items over_alternatives
over_items_less f g h [] = omega arith
over_items_less f g h (item d ∷ is) = omega (arith, go d.alternatives, over_items_less f g h is)
  where
    go : (as' : List Alternative) → over_alternatives f as' ≤ over_alternatives g as'
    go [] = omega arith
    go (a ∷ as') = omega (arith, h a.symbols, go as')
over_items_less f g h (Item.terminal s o x ∷ is) = over_items_less f g h is

-- theorem: what the sums of a round ask: 9 c + qs ≤ s
pub expanded_fit : (ts : List Text) (is : List Item) → 9 * over_items count_expanded_all is + heads is ≤ length (bytes_of_each (item_bytes 2 ts) is)
expanded_fit ts is = omega (arith, items_few ts is, over_items_less count_expanded_all nodes_all expanded_all_few is)

-- theorem: and nine bytes for each symbol straight in an alternative, whatever it is
pub straight_fit : (ts : List Text) (is : List Item) → 9 * over_items count is + heads is ≤ length (bytes_of_each (item_bytes 2 ts) is)
straight_fit ts is = omega (arith, items_few ts is, over_items_less count nodes_all count-few is)
