-- The ways out of the functions that put commands. Assumes nothing.
use mathlib.Core.Path.{◌≡◌, refl, ap, ◌∙◌}
use mathlib.Core.List.{List, [], ◌∷◌, ◌++◌, append_assoc}
use Prim.Native.Nat.{ℕ, ◌+◌, ◌≤◌, ◌<◌}
use native.Mathlib.Omega.{arith}
use borrow.Author.Rules.{rules}
use lib.ListN.{length, set, length-set, length-append}
use Rattle.octets.specs.Plain.Numbers.{le}
use Rattle.octets.specs.Working.Stores.{store}
use Rattle.octets.proofs.NumbersLaws.{length-le}
use Rattle.octets.proofs.StoreLaws.{store-append, length_store}
pub use Rattle.precedence.proofs.WriteLaws.{put_ends}
use Rattle.appending.specs.Commands.{item_head, name_head, plus_head}

set_store : (s : List ℕ) (at v : ℕ) → set s at v ≡ store s at (v ∷ [])
unfolding store
set_store s at v = refl

-- ---- how long the commands are
pub item_long : (wd span k flags alternatives : ℕ) → length (item_head wd span k flags alternatives) ≡ 13 + wd
unfolding item_head
item_long wd span k flags alternatives = omega (arith, length-append (le 8 span) (le wd k ++ (flags ∷ (0 ∷ le 2 alternatives))), length-le 8 span, length-le wd k, length-le 2 alternatives, length-append (le wd k) (flags ∷ (0 ∷ le 2 alternatives)))

pub name_long : (wd span k : ℕ) → length (name_head wd span k) ≡ 10 + wd
unfolding name_head
name_long wd span k = omega (arith, length-append (le 8 span) (0 ∷ le wd k), length-le 8 span, length-le wd k)

pub plus_long : (span : ℕ) → length (plus_head span) ≡ 10
unfolding plus_head
plus_long span = omega (arith, length-append (le 8 span) (1 ∷ []), length-le 8 span)

pub nonterminal_long : (wd span k : ℕ) → length (36 ∷ (le 8 span ++ le wd k)) ≡ 9 + wd
nonterminal_long wd span k = omega (arith, length-append (le 8 span) (le wd k), length-le 8 span, length-le wd k)

-- ---- store_item
module _ (w w2 : List ℕ) (to wd span k flags alternatives : ℕ) (b : w2 ≡ store w to (16 ∷ (le 8 span ++ le wd k))) where
  item_same : length w2 ≡ length w
  item_same = ap length b ∙ length_store w to (16 ∷ (le 8 span ++ le wd k))

  pub item-first : to + (13 + wd) ≤ length w → to + 9 + wd < length w2
  item-first h = omega (arith, item_same)

  pub item-second : to + (13 + wd) ≤ length w → to + 10 + wd < length (set w2 (to + 9 + wd) flags)
  item-second h = omega (arith, item_same, length-set w2 (to + 9 + wd) flags)

  abbrev w4 : List ℕ
  w4 = set (set w2 (to + 9 + wd) flags) (to + 10 + wd) 0

  long_4 : length w4 ≡ length w
  long_4 = length-set (set w2 (to + 9 + wd) flags) (to + 10 + wd) 0 ∙ length-set w2 (to + 9 + wd) flags ∙ item_same

  pub item_third : to + (13 + wd) ≤ length w → to + 11 + wd + 2 ≤ length w4
  item_third h = omega (arith, long_4)

  module _ (w5 : List ℕ) (c : w5 ≡ store w4 (to + 11 + wd) (le 2 alternatives)) where
    pub item_kept : length w5 ≡ length w
    item_kept = ap length c ∙ length_store w4 (to + 11 + wd) (le 2 alternatives) ∙ long_4

    pub item_stored : w5 ≡ store w to (item_head wd span k flags alternatives)
    unfolding item_head
    item_stored =
        c ∙ ap (λ (x : List ℕ). store x (to + 11 + wd) (le 2 alternatives)) (set_store (set w2 (to + 9 + wd) flags) (to + 10 + wd) 0)
        ∙ store-append (set w2 (to + 9 + wd) flags) (to + 10 + wd) (to + 11 + wd) (0 ∷ []) (le 2 alternatives) (omega arith)
        ∙ ap (λ (x : List ℕ). store x (to + 10 + wd) (0 ∷ le 2 alternatives)) (set_store w2 (to + 9 + wd) flags)
        ∙ store-append w2 (to + 9 + wd) (to + 10 + wd) (flags ∷ []) (0 ∷ le 2 alternatives) (omega arith)
        ∙ ap (λ (x : List ℕ). store x (to + 9 + wd) (flags ∷ (0 ∷ le 2 alternatives))) b
        ∙ store-append w to (to + 9 + wd) (16 ∷ (le 8 span ++ le wd k)) (flags ∷ (0 ∷ le 2 alternatives)) (omega (arith, length-le 8 span, length-le wd k, length-append (le 8 span) (le wd k)))
        ∙ ap (λ (x : List ℕ). store w to (16 ∷ x)) (append_assoc (le 8 span) (le wd k) (flags ∷ (0 ∷ le 2 alternatives)))

-- ---- store_name
module _ (w w1 : List ℕ) (to wd span k : ℕ) (a : w1 ≡ store w to (40 ∷ le 8 span)) where
  around_same : length (set w1 (to + 9) 0) ≡ length w
  around_same = length-set w1 (to + 9) 0 ∙ ap length a ∙ length_store w to (40 ∷ le 8 span)

  pub name_first : to + (10 + wd) ≤ length w → to + 9 < length w1
  name_first h = omega (arith, around_same, length-set w1 (to + 9) 0)

  pub name_second : to + (10 + wd) ≤ length w → to + 10 + wd ≤ length (set w1 (to + 9) 0)
  name_second h = omega (arith, around_same)

  module _ (w2 : List ℕ) (b : w2 ≡ store (set w1 (to + 9) 0) (to + 10) (le wd k)) where
    pub name_kept : length w2 ≡ length w
    name_kept = ap length b ∙ length_store (set w1 (to + 9) 0) (to + 10) (le wd k) ∙ around_same

    pub name_stored : w2 ≡ store w to (name_head wd span k)
    unfolding name_head
    name_stored =
        b ∙ ap (λ (x : List ℕ). store x (to + 10) (le wd k)) (set_store w1 (to + 9) 0)
        ∙ store-append w1 (to + 9) (to + 10) (0 ∷ []) (le wd k) (omega arith)
        ∙ ap (λ (x : List ℕ). store x (to + 9) (0 ∷ le wd k)) a
        ∙ store-append w to (to + 9) (40 ∷ le 8 span) (0 ∷ le wd k) (omega (arith, length-le 8 span))

-- ---- put_plus
module _ (w w1 : List ℕ) (to span : ℕ) (a : w1 ≡ store w to (38 ∷ le 8 span)) where
  pub plus_stored : set w1 (to + 9) 1 ≡ store w to (plus_head span)
  unfolding plus_head
  plus_stored =
      set_store w1 (to + 9) 1 ∙ ap (λ (x : List ℕ). store x (to + 9) (1 ∷ [])) a
      ∙ store-append w to (to + 9) (38 ∷ le 8 span) (1 ∷ []) (omega (arith, length-le 8 span))

pub ruleset storing_item = (rules, item-first, item-second, item_third, item_kept, item_stored)

pub ruleset storing_name = (rules, name_first, name_second, name_kept, name_stored)
