-- Counts over trees that bound the room in work. Assumes nothing: these are definitions.
use Rattle.std.specs.Prelude.{ℕ, suc, ◌+◌, List, [], ◌∷◌}
use Rattle.parse_tree.specs.Plain.Tree.{Leaf, Around, Sym, Syms, ambiguous, bare, quoted, regex, nonterminal, lookahead, lookbehind, error, repeat, choose, name, leaf, around, over, nil, cons, Alternative, Item, item}

-- `@L` and `@R`
abbrev pub looks_leaf : Leaf → ℕ
looks_leaf (ambiguous n) = 0
looks_leaf (bare n) = 0
looks_leaf (quoted t) = 0
looks_leaf (regex t) = 0
looks_leaf (nonterminal n) = 0
looks_leaf lookahead = 1
looks_leaf lookbehind = 1
looks_leaf error = 0

unfoldable mutual
  pub looks : Sym → ℕ
  looks (leaf s l) = looks_leaf l
  looks (around s a x) = looks x
  looks (over s o xs) = looks_all xs

  pub looks_all : Syms → ℕ
  looks_all nil = 0
  looks_all (cons x xs) = looks x + looks_all xs

-- 1 for a repeat
abbrev pub repeats : Around → ℕ
repeats (repeat o) = 1
repeats choose = 0
repeats (name m n) = 0

-- symbols that are replaced, at any depth
unfoldable mutual
  pub count_expanded : Sym → ℕ
  count_expanded (leaf s l) = looks_leaf l
  count_expanded (around s a x) = repeats a + count_expanded x
  count_expanded (over s o xs) = suc (count_expanded_all xs)

  pub count_expanded_all : Syms → ℕ
  count_expanded_all nil = 0
  count_expanded_all (cons x xs) = count_expanded x + count_expanded_all xs

-- ---- over items: the bytes of the commands of nonterminals and alternatives, with atom numbers of two bytes; and a count summed over the symbols of all alternatives
unfoldable pub heads_in : List Alternative → ℕ
heads_in [] = 0
heads_in (a ∷ as') = 16 + heads_in as'

unfoldable pub heads : List Item → ℕ
heads [] = 0
heads (item d ∷ is) = 15 + heads_in d.alternatives + heads is
heads (Item.terminal s o x ∷ is) = heads is

unfoldable pub over_alternatives : (Syms → ℕ) → List Alternative → ℕ
over_alternatives f [] = 0
over_alternatives f (a ∷ as') = f a.symbols + over_alternatives f as'

unfoldable pub over_items : (Syms → ℕ) → List Item → ℕ
over_items f [] = 0
over_items f (item d ∷ is) = over_alternatives f d.alternatives + over_items f is
over_items f (Item.terminal s o x ∷ is) = over_items f is
