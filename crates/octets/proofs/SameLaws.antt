-- `same_as` says that two lists are equal. Assumes nothing.
use mathlib.Core.Path.{◌≡◌, refl, sym, ◌∙◌}
use mathlib.Core.Bool.{Bool, true, false, ◌&&◌, false≢true}
use mathlib.Core.List.{List, [], ◌∷◌}
use Prim.Native.Nat.{ℕ}
use native.Mathlib.Omega.{arith}
use borrow.Author.Tests.{eqb-true, eq-eqb}
use lib.Dec.{eqb}
use lib.Pointwise.{pointwise}
use Rattle.octets.specs.Plain.Runs.{same_as}

pub same_as-eq : (x y : List ℕ) → same_as x y ≡ true → x ≡ y
unfolding same_as
same_as-eq [] [] h = refl
same_as-eq [] (b ∷ y) h = absurd (let z : ◌≡◌ {A = ℕ} 0 1 = cc in omega arith)
same_as-eq (a ∷ x) [] h = absurd (let z : ◌≡◌ {A = ℕ} 0 1 = cc in omega arith)
same_as-eq (a ∷ x) (b ∷ y) h = go (eqb a b) refl (same_as-eq x y)
  where
    go : (t : Bool) → eqb a b ≡ t → (same_as x y ≡ true → x ≡ y) → a ∷ x ≡ b ∷ y
    go true e i = let p = eqb-true a b e in let q = i (cc) in cc
    go false e i = absurd (let z : ◌≡◌ {A = ℕ} 0 1 = cc in omega arith)

pub same_as-refl : (x : List ℕ) → same_as x x ≡ true
unfolding same_as
same_as-refl [] = refl
same_as-refl (a ∷ x) = cc (eq-eqb a a refl, same_as-refl x)

pub eq_same_as : (x y : List ℕ) → x ≡ y → same_as x y ≡ true
eq_same_as x y e = rw e (same_as-refl y)

pub same_as-sym : (xs ys : List ℕ) → same_as xs ys ≡ same_as ys xs
same_as-sym xs ys = go (same_as xs ys) refl (same_as ys xs) refl
  where
    go : (b : Bool) → same_as xs ys ≡ b → (c : Bool) → same_as ys xs ≡ c → b ≡ c
    go true p true q = refl
    go true p false q = let e = same_as-eq xs ys p in absurd (false≢true (sym q ∙ rw e (same_as-refl ys)))
    go false p true q = let e = same_as-eq ys xs q in absurd (false≢true (sym p ∙ rw e (same_as-refl xs)))
    go false p false q = refl

-- what std's `==` says of two slices of bytes
pub pointwise-same : (xs ys : List ℕ) → pointwise eqb xs ys ≡ same_as xs ys
unfolding same_as
pointwise-same [] [] = refl
pointwise-same [] (y ∷ ys) = refl
pointwise-same (x ∷ xs) [] = refl
pointwise-same (x ∷ xs) (y ∷ ys) = go (eqb x y) (pointwise-same xs ys)
  where
    go : (b : Bool) → pointwise eqb xs ys ≡ same_as xs ys → b && pointwise eqb xs ys ≡ elim b [ true ↦ same_as xs ys | false ↦ false ]
    go true i = i
    go false i = refl

pub said-same : (xs ys : List ℕ) (r : Bool) → r ≡ pointwise eqb xs ys → r ≡ same_as xs ys
said-same xs ys r e = e ∙ pointwise-same xs ys
