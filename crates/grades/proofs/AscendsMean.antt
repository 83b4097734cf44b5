-- Where the levels ascend, so do the keys. Assumes nothing.
use mathlib.Core.Path.{◌≡◌, refl, sym, ap, ◌∙◌}
use mathlib.Core.Bool.{Bool, true, false, cond, true≢false}
use mathlib.Core.Logic.{◌⊎◌, inl, inr}
use mathlib.Core.List.{List, [], ◌∷◌}
use Prim.Native.Nat.{ℕ, suc, ◌+◌, ◌*◌, ◌≤◌, ◌<◌}
use native.Mathlib.Omega.{arith}
use borrow.Author.Tests.{lt-ltb, le-ltb, ltb-true, ltb-false}
use lib.Dec.{ltb}
use Rattle.octets.specs.Working.Choice.{pick}
use Rattle.parse_tree.specs.Working.Within.{Each}
use Rattle.passes.specs.Grades.{Side, all, assoc, value_of, side_of, Levelled, with_sides}
use Rattle.laws.specs.Sort.{Ascends, keys_from}
use Rattle.grades.specs.declared.Assoc.{Assoc}
use Rattle.grades.specs.Grade.{assoc_of}
use Rattle.grades.specs.Key.{side_number, code_of}
use Rattle.grades.specs.Alternatives.{still_ascends}

-- whether levels ascend, behind a level
unfoldable pub ascends_from : Bool → ℕ → List Levelled → Bool
ascends_from b l [] = b
ascends_from b l (x ∷ xs) = ascends_from (still_ascends b l x.level) x.level xs

pub side_few : (x : Assoc) → side_number x < 4
unfolding side_number
side_few Assoc.Left = omega arith
side_few Assoc.Right = omega arith
side_few Assoc.NonAssoc = omega arith
side_few Assoc.FullyAssoc = omega arith

-- ---- levels that ascend make keys that do
still : (b : Bool) (l v : ℕ) → v < l → still_ascends b l v ≡ false
unfolding still_ascends pick
still b l v h = cc (lt-ltb v l h)

same_still : (b : Bool) (l v : ℕ) → l ≤ v → still_ascends b l v ≡ b
unfolding still_ascends pick
same_still b l v h = cc (le-ltb v l h)

by_levels_lem : (b : Bool) (l v : ℕ) → (still_ascends b l v ≡ false) ⊎ ((l ≤ v) × (still_ascends b l v ≡ b))
by_levels_lem b l v = go (ltb v l) refl
  where
    go : (c : Bool) → ltb v l ≡ c → (still_ascends b l v ≡ false) ⊎ ((l ≤ v) × (still_ascends b l v ≡ b))
    go true x = inl (still b l v (ltb-true v l x))
    go false x = inr (ltb-false v l x, same_still b l v (ltb-false v l x))

never : (l v : ℕ) → still_ascends false l v ≡ false
never l v = go (by_levels_lem false l v)
  where
    go : (still_ascends false l v ≡ false) ⊎ ((l ≤ v) × (still_ascends false l v ≡ false)) → still_ascends false l v ≡ false
    go (inl z) = z
    go (inr (h, z)) = z

not_again : (l : ℕ) (xs : List Levelled) → ascends_from false l xs ≡ false
unfolding ascends_from
not_again l [] = refl
not_again l (x ∷ xs) = ap (λ (c : Bool). ascends_from c x.level xs) (never l x.level) ∙ not_again x.level xs

ascends_first : (l v : ℕ) (xs : List Levelled) → ascends_from (still_ascends true l v) v xs ≡ true → (l ≤ v) × (ascends_from true v xs ≡ true)
ascends_first l v xs q = go (by_levels_lem true l v)
  where
    go : (still_ascends true l v ≡ false) ⊎ ((l ≤ v) × (still_ascends true l v ≡ true)) → (l ≤ v) × (ascends_from true v xs ≡ true)
    go (inl z) = absurd (true≢false (sym q ∙ ap (λ (c : Bool). ascends_from c v xs) z ∙ not_again v xs))
    go (inr (h, z)) = (h, ap (λ (c : Bool). ascends_from c v xs) (sym z) ∙ q)

-- each key is above what is below the level and the index
keys_above : (xs : List Levelled) (i l : ℕ) (s : Side) (k : ℕ) → ascends_from true l xs ≡ true → k < (l * 65536 + i) * 4 → Each (λ y. k < y) (keys_from code_of i (with_sides s xs))
unfolding ascends_from keys_from
keys_above [] i l s k q h = tt
keys_above (x ∷ xs) i l s k q h =
    let f = ascends_first l x.level xs q in
    (omega (arith, f.0), keys_above xs (suc i) x.level _ k f.1 (omega (arith, f.0)))

-- theorem: where `grade` says that the levels ascend, the keys do, and need not be sorted
pub keys_ascend : (xs : List Levelled) (i l : ℕ) (s : Side) → ascends_from true l xs ≡ true → Ascends (keys_from code_of i (with_sides s xs))
unfolding ascends_from keys_from
keys_ascend [] i l s q = tt
keys_ascend (x ∷ xs) i l s q =
    let f = ascends_first l x.level xs q in
    let t : Side = side_of (cond x.is_new all s) (value_of assoc x.alternative.attributes) in
    (keys_above xs (suc i) x.level t ((x.level * 65536 + i) * 4 + code_of t) f.1 (omega (arith, side_few (assoc_of t))), keys_ascend xs (suc i) x.level t f.1)
