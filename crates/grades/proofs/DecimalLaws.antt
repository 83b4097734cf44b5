-- The digits of a number or a level: how many, that each is a digit, and that they tell the level. Assumes nothing.
use mathlib.Core.Path.{◌≡◌, refl, sym, ap, ◌∙◌}
use mathlib.Core.Bool.{Bool, true, false, cond}
use mathlib.Core.List.{List, [], ◌∷◌}
use Prim.Native.Nat.{ℕ, zero, suc, ◌+◌, ◌*◌, ◌-◌, ◌/◌, ◌%◌, ◌^◌, ◌≤◌, ◌<◌}
use native.Mathlib.Omega.{arith}
use borrow.Author.Tests.{lt-ltb, le-ltb, ltb-true, ltb-false}
use lib.Dec.{ltb}
use lib.ListN.{length}
use Rattle.passes.specs.Levels.{decimal_from, number_digits}
use Rattle.grades.specs.Grade.{level_digits}

-- the last digit of q
abbrev pub last : ℕ → ℕ
last q = 48 + q % 10

-- how many digits q has, at most k
unfoldable pub size_by : ℕ → ℕ → ℕ
size_by zero q = 0
size_by (suc k) q = suc (cond (ltb q 10) 0 (size_by k (q / 10)))

-- the last n digits of q before r
unfoldable pub front : ℕ → ℕ → List ℕ → List ℕ
front zero q r = r
front (suc n) q r = front n (q / 10) (last q ∷ r)

from_front : (k q : ℕ) (r : List ℕ) → decimal_from k q r ≡ front (size_by k q) q r
unfolding size_by front
from_front zero q r = refl
from_front (suc k) q r = go (ltb q 10) (from_front k (q / 10) (last q ∷ r))
  where
    go : (b : Bool) → decimal_from k (q / 10) (last q ∷ r) ≡ front (size_by k (q / 10)) (q / 10) (last q ∷ r)
        → cond b (last q ∷ r) (decimal_from k (q / 10) (last q ∷ r)) ≡ front (suc (cond b 0 (size_by k (q / 10)))) q r
    go true i = refl
    go false i = i

pub digits-front : (v : ℕ) → level_digits v ≡ front (size_by 10 v) v []
unfolding level_digits
digits-front v = from_front 10 v []

pub number-front : (v : ℕ) → number_digits v ≡ front (size_by 20 v) v []
unfolding number_digits
number-front v = from_front 20 v []

length_front : (n q : ℕ) (r : List ℕ) → length (front n q r) ≡ n + length r
unfolding front
length_front zero q r = omega arith
length_front (suc n) q r = let z = length_front n (q / 10) (last q ∷ r) in omega (arith, z)

pub size_is : (v : ℕ) → length (level_digits v) ≡ size_by 10 v
size_is v = let z = length_front (size_by 10 v) v [] in ap length (digits-front v) ∙ omega (arith, z)

pub number_long : (v : ℕ) → length (number_digits v) ≡ size_by 20 v
number_long v = let z = length_front (size_by 20 v) v [] in ap length (number-front v) ∙ omega (arith, z)

pub size_one : (k q : ℕ) → q ≤ 9 → size_by (suc k) q ≡ 1
unfolding size_by
size_one k q h = ap (λ (b : Bool). suc (cond b 0 (size_by k (q / 10)))) (lt-ltb q 10 (omega arith))

pub size_more : (k q : ℕ) → 9 < q → size_by (suc k) q ≡ suc (size_by k (q / 10))
unfolding size_by
size_more k q h = ap (λ (b : Bool). suc (cond b 0 (size_by k (q / 10)))) (le-ltb q 10 (omega arith))

-- ---- where they are the same
size_same : (k j q : ℕ) → k ≤ j → q < 10 ^ suc k → size_by (suc k) q ≡ size_by (suc j) q
size_same zero j q l h = size_one 0 q (omega arith) ∙ sym (size_one j q (omega arith))
size_same (suc k) zero q l h = absurd (omega arith)
size_same (suc k) (suc j) q l h = go (ltb q 10) refl (size_same k j (q / 10) (omega arith))
  where
    go : (b : Bool) → ltb q 10 ≡ b → (q / 10 < 10 ^ suc k → size_by (suc k) (q / 10) ≡ size_by (suc j) (q / 10)) → size_by (suc (suc k)) q ≡ size_by (suc (suc j)) q
    go true e i = let n = ltb-true q 10 e in size_one (suc k) q (omega arith) ∙ sym (size_one (suc j) q (omega arith))
    go false e i = let n = ltb-false q 10 e in size_more (suc k) q n ∙ ap suc (i (omega arith)) ∙ sym (size_more (suc j) q n)

pub level_number : (v : ℕ) → v < 4294967296 → level_digits v ≡ number_digits v
level_number v h = digits-front v ∙ ap (λ (n : ℕ). front n v []) (size_same 9 19 v (omega arith) (omega arith)) ∙ sym (number-front v)

-- ---- 1 to 10 digits
size_most : (k q : ℕ) → size_by k q ≤ k
unfolding size_by
size_most zero q = omega arith
size_most (suc k) q = go (ltb q 10) (size_most k (q / 10))
  where
    go : (b : Bool) → size_by k (q / 10) ≤ k → suc (cond b 0 (size_by k (q / 10))) ≤ suc k
    go true i = omega arith
    go false i = omega arith

-- theorem
pub digits-most : (v : ℕ) → length (level_digits v) ≤ 10
digits-most v = omega (arith, size_is v, size_most 10 v)

-- ---- they tell the level: different levels have different digits
unfoldable pub value_from : ℕ → List ℕ → ℕ
value_from v [] = v
value_from v (b ∷ bs) = value_from (v * 10 + (b - 48)) bs
