-- The laws of `lay` and `adv`; where everything fits a lay is a store. Assumes nothing.
use mathlib.Core.Path.{◌≡◌, refl, ◌∙◌}
use mathlib.Core.Logic.{◌⊎◌, inl, inr}
use mathlib.Core.List.{List, [], ◌∷◌, ◌++◌}
use Prim.Native.Nat.{ℕ, zero, suc, ◌+◌, ◌<◌, ◌≤◌}
use native.Mathlib.Omega.{arith}
use native.Mathlib.Numerals.{add-one}
use borrow.Author.Tests.{lt-ltb, le-ltb, ltb-true}
use lib.Dec.{ltb}
use lib.ListN.{length, set, length-set}
use Rattle.octets.specs.Working.Choice.{pick}
use Rattle.octets.specs.Working.Sink.{step, adv, lay1, lay}
use Rattle.octets.specs.Working.Stores.{store}
use Rattle.octets.proofs.ChoiceLaws.{by_pick}

pub adv-append : (lim to n m : ℕ) → adv lim (adv lim to n) m ≡ adv lim to (n + m)
unfolding adv
adv-append lim to zero m = let z : zero + m ≡ m = omega arith in rw z
adv-append lim to (suc n) m = let z : suc n + m ≡ suc (n + m) = omega arith in rw z (adv-append lim (step lim to) n m)

pub lay-append : (w : List ℕ) (lim to : ℕ) (xs ys : List ℕ) → lay (lay w lim to xs) lim (adv lim to (length xs)) ys ≡ lay w lim to (xs ++ ys)
unfolding lay adv
lay-append w lim to [] ys = refl
lay-append w lim to (x ∷ xs) ys = lay-append (lay1 w lim to x) lim (step lim to) xs ys

step-le : (lim to : ℕ) → to ≤ step lim to
unfolding step
step-le lim to = by_pick (λ r. to ≤ r) _ (λ _. omega arith) (λ _. omega arith)

step_is : (lim to : ℕ) → (step lim to ≡ to + 1) ⊎ (lim < to)
unfolding step
step_is lim to = by_pick (λ r. (r ≡ to + 1) ⊎ (lim < to)) (ltb lim to) (λ z. inr (ltb-true lim to z)) (λ z. inl refl)

pub adv-in : (lim to n : ℕ) → to + n ≤ lim + 1 → adv lim to n ≡ to + n
unfolding adv step pick
adv-in lim to zero h = omega arith
adv-in lim to (suc n) h =
    let z : step lim to ≡ to + 1 = cc (le-ltb lim to (omega arith)) in
    rw z (adv-in lim (to + 1) n (omega arith) ∙ (omega arith))

-- a cursor that ends at most at lim has counted all
pub adv-fits : (lim to n : ℕ) → adv lim to n ≤ lim → to + n ≤ lim
unfolding adv step
adv-fits lim to zero h = omega arith
adv-fits lim to (suc n) h =
    let i = adv-fits lim (step lim to) n h in
    let j = step-le lim to in
    let k : (step lim to ≡ to + 1) ⊎ (lim < to) = step_is lim to in
    elim k [ inl e ↦ omega arith | inr e ↦ absurd (omega arith) ]

pub lay-fits : (w : List ℕ) (lim to : ℕ) (xs : List ℕ) → to + length xs ≤ lim → lay w lim to xs ≡ store w to xs
unfolding lay lay1 step pick store
lay-fits w lim to [] h = refl
lay-fits w lim to (x ∷ xs) h =
    let a : lay1 w lim to x ≡ set w to x = cc (lt-ltb to lim (omega arith)) in
    let b : step lim to ≡ suc to = cc (le-ltb lim to (omega arith), add-one to) in
    rw (a, b) (lay-fits (set w to x) lim (suc to) xs (omega arith))

-- from lim on nothing is written
pub lay-over : (w : List ℕ) (lim to : ℕ) (xs : List ℕ) → lim ≤ to → lay w lim to xs ≡ w
unfolding lay lay1 pick
lay-over w lim to [] h = refl
lay-over w lim to (x ∷ xs) h =
    let a : lay1 w lim to x ≡ w = cc (le-ltb to lim h) in
    rw a (lay-over w lim (step lim to) xs (omega (arith, step-le lim to)))

pub length_lay : (w : List ℕ) (lim to : ℕ) (xs : List ℕ) → length (lay w lim to xs) ≡ length w
unfolding lay lay1
length_lay w lim to [] = refl
length_lay w lim to (x ∷ xs) =
    length_lay (lay1 w lim to x) lim (step lim to) xs ∙ by_pick (λ (r : List ℕ). length r ≡ length w) (ltb to lim) (λ _. length-set w to x) (λ _. refl)
