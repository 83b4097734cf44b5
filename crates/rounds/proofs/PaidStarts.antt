-- What a pile that isn't empty says of the items that it comes from: an item with an alternative is among them, each pushed symbol has its nine bytes, so records and heads of buckets have room. Assumes nothing.
use mathlib.Core.Path.{◌≡◌, refl, sym, subst}
use mathlib.Core.Bool.{Bool, true, false, cond}
use mathlib.Core.List.{List, [], ◌∷◌, ◌++◌}
use Prim.Native.Nat.{ℕ, zero, suc, ◌+◌, ◌/◌, ◌≤◌}
use native.Mathlib.Omega.{arith}
use borrow.Author.Tests.{ltb-false}
use lib.Dec.{ltb}
use lib.ListN.{length, length-append}
use Rattle.octets.specs.Working.Choice.{pick}
use Rattle.parse_tree.specs.Plain.Tree.{Text, Leaf, Around, Sym, Syms, ambiguous, bare, quoted, regex, nonterminal, lookahead, lookbehind, error, repeat, choose, name, leaf, around, over, nil, cons, Alternative, Item, item}
use Rattle.parse_tree.specs.Plain.Texts.{has}
use Rattle.parse_tree.specs.Plain.Display.{print}
use Rattle.parse_tree.specs.Plain.WriteTape.{bytes_of_each}
use Rattle.parse_tree.specs.Working.Encode.{item_bytes}
use Rattle.parse_tree.specs.declared.syntax.Span.{Span}
use Rattle.passes.specs.Macros.{MacroExpander, replace_items, without_macros}
use Rattle.laws.specs.Counts.{looks_leaf, count_expanded, count_expanded_all, heads_in, heads, over_alternatives, over_items}
use Rattle.laws.proofs.Counts.{expanded_fit}
use Rattle.replacing.specs.Trees.{inner, own_leaf, own_around, expanded, expanded_all, enter, enter_all, expanded_alternatives, expanded_item, expanded_items}
use Rattle.replacing.proofs.TreesMean.{replace_items_is}
use Rattle.rounds.specs.Grounds.{buckets_of}
use Rattle.rounds.specs.Paid.{Paid}
use Rattle.rounds.proofs.PaidKeeps.{heads-both}

-- ---- how many are expanded
leaf_count : (s : Span) (l : Leaf) → length (own_leaf s l) ≡ looks_leaf l
leaf_count s (ambiguous n) = refl
leaf_count s (bare n) = refl
leaf_count s (quoted t) = refl
leaf_count s (regex t) = refl
leaf_count s (nonterminal n) = refl
leaf_count s lookahead = refl
leaf_count s lookbehind = refl
leaf_count s error = refl

around_count : (s : Span) (a : Around) (x : Sym) → length (expanded x) ≡ count_expanded x → length (expanded x ++ own_around s a x) ≡ count_expanded (around s a x)
unfolding count_expanded
around_count s (repeat o) x h = omega (arith, h, length-append (expanded x) (around s (repeat o) x ∷ []))
around_count s choose x h = omega (arith, h, length-append (expanded x) [])
around_count s (name m n) x h = omega (arith, h, length-append (expanded x) [])

mutual
  unfolding expanded count_expanded

  symbol_count : (x : Sym) → length (expanded x) ≡ count_expanded x
  symbol_count (leaf s l) = leaf_count s l
  symbol_count (around s a x) = around_count s a x (symbol_count x)
  symbol_count (over s o xs) = omega (arith, symbols_count xs, length-append (expanded_all xs) (over s o xs ∷ []))

  symbols_count : (xs : Syms) → length (expanded_all xs) ≡ count_expanded_all xs
  symbols_count nil = refl
  symbols_count (cons x xs) = omega (arith, symbol_count x, symbols_count xs, length-append (expanded x) (expanded_all xs))

alternatives_count : (as' : List Alternative) → length (expanded_alternatives as') ≡ over_alternatives count_expanded_all as'
unfolding expanded_alternatives over_alternatives
alternatives_count [] = refl
alternatives_count (a ∷ as') = omega (arith, symbols_count a.symbols, alternatives_count as', length-append (expanded_all a.symbols) (expanded_alternatives as'))

pub items_count : (is : List Item) → length (expanded_items is) ≡ over_items count_expanded_all is
unfolding expanded_items expanded_item over_items
items_count [] = refl
items_count (item d ∷ is) = omega (arith, alternatives_count d.alternatives, items_count is, length-append (expanded_alternatives d.alternatives) (expanded_items is))
items_count (Item.terminal s o t ∷ is) = items_count is

-- ---- those pushed are among them
enter-few : (xs : List Sym) (σ : MacroExpander) → length (enter_all xs σ).pile ≤ length xs + length σ.pile
unfolding enter_all enter
enter-few [] σ = omega arith
enter-few (x ∷ xs) σ = omega (arith, enter-few xs (enter x σ), go (has (print x) σ.keys))
  where
    go : (b : Bool) → length (cond b σ (record { keys = print x ∷ σ.keys; pile = inner x ∷ σ.pile })).pile ≤ suc (length σ.pile)
    go true = omega arith
    go false = omega arith

-- ---- an item with an alternative
heads-one : (as' : List Alternative) → 1 ≤ over_alternatives count_expanded_all as' → 16 ≤ heads_in as'
unfolding over_alternatives heads_in
heads-one [] h = absurd (omega arith)
heads-one (a ∷ as') h = omega arith

expanded_heads : (is : List Item) → 1 ≤ over_items count_expanded_all is → 31 ≤ heads is
unfolding over_items heads
expanded_heads [] h = absurd (omega arith)
expanded_heads (item d ∷ is) h = go (over_alternatives count_expanded_all d.alternatives) refl (expanded_heads is)
  where
    go : (n : ℕ) → n ≡ over_alternatives count_expanded_all d.alternatives → (1 ≤ over_items count_expanded_all is → 31 ≤ heads is) → 31 ≤ 15 + heads_in d.alternatives + heads is
    go zero e r = omega (arith, r (omega (arith, h, e)))
    go (suc n) e r = omega (arith, heads-one d.alternatives (omega (arith, e)))
expanded_heads (Item.terminal s o t ∷ is) h = expanded_heads is h

-- ---- without definitions of macros there are no more
pub without_less : (f : Syms → ℕ) (is : List Item) → (heads (without_macros is) ≤ heads is) × (over_items f (without_macros is) ≤ over_items f is)
unfolding heads over_items
without_less f [] = (omega arith, omega arith)
without_less f (item d ∷ is) = go d.args (without_less f is)
  where
    go : (ps : List Text) → (heads (without_macros is) ≤ heads is) × (over_items f (without_macros is) ≤ over_items f is)
        → (heads (elim ps [ [] ↦ item d ∷ without_macros is | p ∷ qs ↦ without_macros is ]) ≤ 15 + heads_in d.alternatives + heads is)
        × (over_items f (elim ps [ [] ↦ item d ∷ without_macros is | p ∷ qs ↦ without_macros is ]) ≤ over_alternatives f d.alternatives + over_items f is)
    go [] h = (omega (arith, h.0), omega (arith, h.1))
    go (p ∷ ps) h = (omega (arith, h.0), omega (arith, h.1))
without_less f (Item.terminal s o t ∷ is) = without_less f is

-- ---- the pile of a round
module _ (is : List Item) (K : List Text) where
  abbrev pile : ℕ
  pile = length (replace_items is (record { keys = K; pile = [] })).1.pile

  -- theorem: it has at most as many symbols as are expanded
  pub pile_few : pile ≤ over_items count_expanded_all is
  pile_few =
      let σ : MacroExpander = record { keys = K; pile = [] } in
      subst (λ (q : List Item × MacroExpander). length q.1.pile ≤ over_items count_expanded_all is) (sym (replace_items_is is σ)) (omega (arith, enter-few (expanded_items is) σ, items_count is))

  -- theorem: an item has an alternative
  pub pile_heads : 1 ≤ pile → 31 ≤ heads is
  pile_heads h = expanded_heads is (omega (arith, h, pile_few))

-- theorem: before the first round nothing is owed
pub paid_start : (owed : ℕ) (old is : List Item) (K : List Text) → 1 ≤ pile is K → Paid owed [] (old ++ is)
unfolding bytes_of_each
paid_start owed old is K h = (omega (arith, pile_heads is K h, heads-both old is), omega arith)

-- ---- records of pushed symbols, and heads of buckets
buckets_room : (s : ℕ) → 40 ≤ s → buckets_of s + 3 ≤ s / 9
unfolding buckets_of pick
buckets_room s h = go (ltb (s / 64 + 1) 4294967295) refl
  where
    go : (b : Bool) → ltb (s / 64 + 1) 4294967295 ≡ b → pick b (s / 64 + 1) 4294967295 + 3 ≤ s / 9
    go true e = omega arith
    go false e = omega (arith, ltb-false (s / 64 + 1) 4294967295 e)

-- theorem: three records stay free, in the first round too, where s has the definitions of macros
pub records_few : (ts : List Text) (is : List Item) (K : List Text) → 1 ≤ pile (without_macros is) K
    → (pile (without_macros is) K + 3 ≤ length (bytes_of_each (item_bytes 2 ts) is) / 9) × (buckets_of (length (bytes_of_each (item_bytes 2 ts) is)) + 3 ≤ length (bytes_of_each (item_bytes 2 ts) is) / 9)
records_few ts is K h =
    let a = expanded_fit ts is in
    let b = pile_few (without_macros is) K in
    let c = pile_heads (without_macros is) K h in
    let d = without_less count_expanded_all is in
    (omega (arith, a, b, c, d.0, d.1), buckets_room (length (bytes_of_each (item_bytes 2 ts) is)) (omega (arith, a, b, c, d.0, d.1, h)))
