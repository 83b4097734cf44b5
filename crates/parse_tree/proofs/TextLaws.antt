-- The laws of texts in a list: whether one is there, its number, and that no two are equal. Assumes nothing.
use mathlib.Core.Path.{◌≡◌, refl, sym, ap, ◌∙◌}
use mathlib.Core.Bool.{Bool, true, false, ◌&&◌, ◌||◌, not, false≢true, and-eq-true_iff}
use mathlib.Core.List.{List, [], ◌∷◌, ◌++◌}
use Prim.Native.Nat.{ℕ, zero, suc, ◌<◌}
use native.Mathlib.Omega.{arith}
use borrow.Author.Tests.{lt-ltb, not-true}
use lib.Dec.{ltb}
use lib.ListN.{length, get_or}
use Rattle.octets.specs.Plain.Runs.{same_as}
use Rattle.octets.proofs.SameLaws.{same_as-eq, same_as-refl}
use Rattle.parse_tree.specs.Plain.Tree.{Text}
use Rattle.parse_tree.specs.Plain.Texts.{has, number, distinct}

-- ---- two tests at once
pub both : (a b : Bool) → (a && b) ≡ true → (a ≡ true) × (b ≡ true)
both a b = (and-eq-true_iff a b).0

pub and_both : (a b : Bool) → a ≡ true → b ≡ true → (a && b) ≡ true
and_both a b p q = (and-eq-true_iff a b).1 (p, q)

-- ---- the number of a text that is there
pub number-below : (ts : List Text) (x : Text) → has x ts ≡ true → number ts x < length ts
unfolding has number
number-below [] x p = absurd (false≢true p)
number-below (t ∷ ts) x p = go (same_as t x) p (number-below ts x)
  where
    go : (b : Bool) → (elim b [ true ↦ true | false ↦ has x ts ]) ≡ true → (has x ts ≡ true → number ts x < length ts) → (elim b [ true ↦ 0 | false ↦ suc (number ts x) ]) < suc (length ts)
    go true q f = omega arith
    go false q f = omega (arith, f q)

pub number-ltb : (ts : List Text) (x : Text) → has x ts ≡ true → ltb (number ts x) (length ts) ≡ true
number-ltb ts x p = lt-ltb (number ts x) (length ts) (number-below ts x p)

-- and the text of that number
pub text_number : (ts : List Text) (x : Text) → has x ts ≡ true → get_or ts (number ts x) [] ≡ x
unfolding has number
text_number [] x p = absurd (false≢true p)
text_number (t ∷ ts) x p = go (same_as t x) refl p (text_number ts x)
  where
    go : (b : Bool) → same_as t x ≡ b → (elim b [ true ↦ true | false ↦ has x ts ]) ≡ true → (has x ts ≡ true → get_or ts (number ts x) [] ≡ x)
        → get_or (t ∷ ts) (elim b [ true ↦ 0 | false ↦ suc (number ts x) ]) [] ≡ x
    go true e q f = same_as-eq t x e
    go false e q f = f q

-- ---- the text of a number below the list's length
pub has-text : (ts : List Text) (k : ℕ) → k < length ts → has (get_or ts k []) ts ≡ true
unfolding has
has-text [] k h = absurd (omega arith)
has-text (t ∷ ts) zero h = cc (same_as-refl t)
has-text (t ∷ ts) (suc k) h = go (same_as t (get_or ts k [])) (has-text ts k (omega arith))
  where
    go : (b : Bool) → has (get_or ts k []) ts ≡ true → (elim b [ true ↦ true | false ↦ has (get_or ts k []) ts ]) ≡ true
    go true f = refl
    go false f = f

-- and, no two being equal, its number
pub number-text : (ts : List Text) (k : ℕ) → distinct ts ≡ true → k < length ts → number ts (get_or ts k []) ≡ k
unfolding has number distinct
number-text [] k d h = absurd (omega arith)
number-text (t ∷ ts) zero d h = cc (same_as-refl t)
number-text (t ∷ ts) (suc k) d h =
    go (same_as t (get_or ts k [])) refl (number-text ts k ((and-eq-true_iff (not (has t ts)) (distinct ts)).0 d).1 (omega arith))
  where
    go : (b : Bool) → same_as t (get_or ts k []) ≡ b → number ts (get_or ts k []) ≡ k → (elim b [ true ↦ 0 | false ↦ suc (number ts (get_or ts k [])) ]) ≡ suc k
    go true e f =
        let i = same_as-eq t (get_or ts k []) e in
        let n = not-true (has t ts) ((and-eq-true_iff (not (has t ts)) (distinct ts)).0 d).0 in
        let y = has-text ts k (omega arith) in
        absurd (false≢true (cc))
    go false e f = ap suc f

-- ---- lists of texts one behind another
has-append : (x : Text) (ts us : List Text) → has x (ts ++ us) ≡ (has x ts || has x us)
unfolding has
has-append x [] us = refl
has-append x (t ∷ ts) us = go (same_as t x) (has-append x ts us)
  where
    go : (b : Bool) → has x (ts ++ us) ≡ (has x ts || has x us)
        → (elim b [ true ↦ true | false ↦ has x (ts ++ us) ]) ≡ ((elim b [ true ↦ true | false ↦ has x ts ]) || has x us)
    go true f = refl
    go false f = f

-- what stands behind others that it is apart from is not among them
pub distinct_apart : (ts : List Text) (x : Text) (us : List Text) → distinct (ts ++ (x ∷ us)) ≡ true → has x ts ≡ false
unfolding has distinct
distinct_apart [] x us d = refl
distinct_apart (t ∷ ts) x us d =
    let (a, c) = (and-eq-true_iff (not (has t (ts ++ (x ∷ us)))) (distinct (ts ++ (x ∷ us)))).0 d in
    go (same_as t x) refl (not-true (has t (ts ++ (x ∷ us))) a) (distinct_apart ts x us c)
  where
    go : (b : Bool) → same_as t x ≡ b → has t (ts ++ (x ∷ us)) ≡ false → has x ts ≡ false → (elim b [ true ↦ true | false ↦ has x ts ]) ≡ false
    go true e n f =
        let i = same_as-eq t x e in
        absurd (false≢true (sym n ∙ has-append t ts (x ∷ us) ∙ cc (same_as-refl x)))
    go false e n f = f

-- a text that is new may stand behind
pub distinct_more : (ts : List Text) (x : Text) → distinct ts ≡ true → has x ts ≡ false → distinct (ts ++ (x ∷ [])) ≡ true
unfolding has distinct
distinct_more [] x d n = refl
distinct_more (t ∷ ts) x d n =
    let (a, c) = (and-eq-true_iff (not (has t ts)) (distinct ts)).0 d in
    go (same_as t x) refl n (not-true (has t ts) a) (distinct_more ts x c)
  where
    apart : (b : Bool) → same_as x t ≡ b → same_as t x ≡ false → same_as x t ≡ false
    apart true e q = let i = same_as-eq x t e in absurd (false≢true (sym q ∙ cc (same_as-refl x)))
    apart false e q = e

    go : (b : Bool) → same_as t x ≡ b → (elim b [ true ↦ true | false ↦ has x ts ]) ≡ false → has t ts ≡ false
        → (has x ts ≡ false → distinct (ts ++ (x ∷ [])) ≡ true) → (not (has t (ts ++ (x ∷ []))) && distinct (ts ++ (x ∷ []))) ≡ true
    go true e q m f = absurd (false≢true (sym q))
    go false e q m f = cc (has-append t ts (x ∷ []), apart (same_as x t) refl e, f q)
