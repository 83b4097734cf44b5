-- Names of levels, byte by byte: digit_at, same_names. Assumes nothing.
use mathlib.Core.Path.{◌≡◌, refl, sym, ap, ◌∙◌}
use mathlib.Core.Bool.{Bool, true, false}
use mathlib.Core.List.{List, [], ◌∷◌}
use Prim.Native.Nat.{ℕ, zero, suc, ◌+◌, ◌-◌, ◌/◌, ◌%◌, ◌^◌, ◌<◌}
use native.Mathlib.Omega.{arith}
use borrow.Author.Rules.{rules}
use native.Mathlib.Nat.{div-div-eq-div-mul, pow-succ', one-le-pow}
use borrow.Author.Tests.{ne_eqb, ltb-true, ltb-false}
use lib.Dec.{eqb, ltb}
use lib.ListN.{length, get_or}
use lib.Seq.{ext_get_or}
use Rattle.std.specs.Bool.{MatchBool}
use Rattle.std.specs.List.{AllWithin, HoldsAt, range_with_len}
use Rattle.std.proofs.lemmas.List.FromFn.{length-range_with_len, get_or-range_with_len}
use Rattle.octets.specs.Plain.Runs.{same_as}
use Rattle.octets.proofs.SameLaws.{same_as-eq, eq_same_as}
use Rattle.grades.specs.Grade.{level_digits}
use Rattle.grades.proofs.DecimalLaws.{last, size_by, front, digits-front, size_is}

-- ---- digit_at

-- what stands behind the digits
front_after : (n q : ℕ) (r : List ℕ) (i : ℕ) → get_or (front n q r) (n + i) 0 ≡ get_or r i 0
unfolding front
front_after zero q r i = ap (λ (j : ℕ). get_or r j 0) (omega arith)
front_after (suc n) q r i = let z : suc n + i ≡ n + suc i = omega arith in ap (λ (j : ℕ). get_or (front n (q / 10) (last q ∷ r)) j 0) z ∙ front_after n (q / 10) (last q ∷ r) (suc i)

front_behind : (n q : ℕ) (r : List ℕ) → get_or (front n q r) n 0 ≡ get_or r 0 0
front_behind n q r = let z : n ≡ n + 0 = omega arith in ap (λ (j : ℕ). get_or (front n q r) j 0) z ∙ front_after n q r 0

-- the i-th of n digits is what so many tens behind it leave
front_digit : (n q : ℕ) (r : List ℕ) (i : ℕ) → i < n → get_or (front n q r) i 0 ≡ last (q / 10 ^ (n - 1 - i))
unfolding front
front_digit zero q r i h = absurd (omega arith)
front_digit (suc n) q r i h = go (ltb i n) refl (front_digit n (q / 10) (last q ∷ r) i)
  where
    go : (b : Bool) → ltb i n ≡ b → (i < n → get_or (front n (q / 10) (last q ∷ r)) i 0 ≡ last (q / 10 / 10 ^ (n - 1 - i))) → get_or (front n (q / 10) (last q ∷ r)) i 0 ≡ last (q / 10 ^ (suc n - 1 - i))
    go true e f =
        let l = ltb-true i n e in
        let z : suc n - 1 - i ≡ suc (n - 1 - i) = omega arith in
        let y : q / 10 / 10 ^ (n - 1 - i) ≡ q / 10 ^ (suc n - 1 - i) = div-div-eq-div-mul q 10 (10 ^ (n - 1 - i)) ∙ ap (λ (k : ℕ). q / k) (sym (pow-succ' 10 (n - 1 - i))) ∙ ap (λ (k : ℕ). q / 10 ^ k) (sym z) in
        f l ∙ ap last y
    go false e f =
        let z : i ≡ n = omega (arith, ltb-false i n e) in
        let y : suc n - 1 - i ≡ 0 = omega arith in
        let x : q ≡ q / 10 ^ 0 = omega arith in
        ap (λ (j : ℕ). get_or (front n (q / 10) (last q ∷ r)) j 0) z ∙ front_behind n (q / 10) (last q ∷ r) ∙ ap last (x ∙ ap (λ (k : ℕ). q / 10 ^ k) (sym y))

module _ (v i n p : ℕ) (e : p ≡ 10 ^ (n - 1 - i)) where
  pub tens_some : 0 < p
  tens_some = rw e (one-le-pow (n - 1 - i) 10 (omega arith))

  pub digit_done : i < length (level_digits v) → n ≡ length (level_digits v) → (d : ℕ) → d ≡ 48 + v / p % 10 → d ≡ get_or (level_digits v) i 0
  digit_done h s d r =
      let k : n ≡ size_by 10 v = s ∙ size_is v in
      r ∙ ap (λ (j : ℕ). last (v / j)) (e ∙ ap (λ (j : ℕ). 10 ^ (j - 1 - i)) k) ∙ sym (front_digit (size_by 10 v) v [] i (omega (arith, k))) ∙ ap (λ (l : List ℕ). get_or l i 0) (sym (digits-front v))

pub ruleset digiting = (rules, tens_some, digit_done)

-- ---- same_names: two lists compared
pub unlike : (x y : List ℕ) → (x ≡ y → ⊥) → false ≡ same_as x y
unlike x y n = go (same_as x y) refl
  where
    go : (b : Bool) → same_as x y ≡ b → false ≡ b
    go true e = absurd (n (same_as-eq x y e))
    go false e = refl

module _ (x y : List ℕ) where
  pub not_long : (m n : ℕ) → m ≡ length x → n ≡ length y → (m ≡ n → ⊥) → eqb m n ≡ same_as x y
  not_long m n p q d = ne_eqb m n d ∙ unlike x y (λ e. d (p ∙ ap length e ∙ sym q))

  abbrev pub Same : ℕ → Type 0
  Same i = get_or x i 0 ≡ get_or y i 0

  abbrev pub Unlike : ℕ → Type 0
  Unlike i = Same i → ⊥

  pub compared : (n : ℕ) (r : Bool) → n ≡ length x → n ≡ length y
      → MatchBool r (AllWithin Same (range_with_len 0 n) 0 (length (range_with_len 0 n))) ((k : ℕ) × (k < length (range_with_len 0 n)) × HoldsAt Unlike (range_with_len 0 n) k) → r ≡ same_as x y
  compared n true p q g = sym (eq_same_as x y (ext_get_or 0 x y (sym p ∙ q) each))
    where
      each : (i : ℕ) → i < length x → Same i
      each i l =
          let e : get_or (range_with_len 0 n) i 0 ≡ i = get_or-range_with_len 0 n i 0 (omega arith) ∙ omega arith in
          rw e at (g i 0 (omega arith) (omega (arith, length-range_with_len 0 n)))
  compared n false p q (k, l, h) = unlike x y (λ e. h 0 (ap (λ (u : List ℕ). get_or u (get_or (range_with_len 0 n) k 0) 0) e))
