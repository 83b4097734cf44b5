-- What is put one behind another is put as one run; and how it compares with what stood there. Assumes nothing.
use mathlib.Core.Path.{◌≡◌, refl, sym, ap, ◌∙◌}
use mathlib.Core.Bool.{Bool, true, false}
use mathlib.Core.Logic.{◌⊎◌, inl, inr}
use mathlib.Core.List.{List, [], ◌++◌}
use Prim.Native.Nat.{ℕ, ◌+◌, ◌<◌, ◌≤◌}
use native.Mathlib.Omega.{arith}
use borrow.Author.Tests.{leb-true, leb-false}
use lib.Dec.{leb}
use lib.ListN.{length, get_or, length-append}
use Rattle.octets.specs.Working.Stores.{store}
use Rattle.octets.proofs.StoreLaws.{store-none, length_store, store-append, get_d_store_before, get_d_store_after}
use Rattle.precedence.specs.Write.{Puts}

-- it fits or it does not
pub fits_or_not : (a b : ℕ) → (a ≤ b) ⊎ (b < a)
fits_or_not a b = go (leb a b) refl
  where
    go : (t : Bool) → leb a b ≡ t → (a ≤ b) ⊎ (b < a)
    go true z = inl (leb-true a b z)
    go false z = inr (leb-false a b z)

-- a byte before or behind a store
pub store_beside : (w : List ℕ) (to : ℕ) (xs : List ℕ) (lim i : ℕ) → to + length xs ≤ lim → (i < to) ⊎ (lim ≤ i) → get_or (store w to xs) i 0 ≡ get_or w i 0
store_beside w to xs lim i h (inl k) = get_d_store_before w to xs i k
store_beside w to xs lim i h (inr k) = get_d_store_after w to xs i (omega arith)

module _ (w w1 : List ℕ) (lim to : ℕ) (xs : List ℕ) (r : ℕ) (p : Puts w lim to xs r w1) where
  -- bytes before and behind stay
  pub puts_beside : (i : ℕ) → (i < to) ⊎ (lim ≤ i) → get_or w1 i 0 ≡ get_or w i 0
  puts_beside i h = go (fits_or_not (to + length xs) lim)
    where
      go : (to + length xs ≤ lim) ⊎ (lim < to + length xs) → get_or w1 i 0 ≡ get_or w i 0
      go (inl k) = ap (λ (s : List ℕ). get_or s i 0) (p.whole k) ∙ store_beside w to xs lim i k h
      go (inr k) = p.others k i h

  -- the cursor goes on, and stops at lim + 1
  pub puts_on : to ≤ lim + 1 → to ≤ r
  puts_on h = go (fits_or_not (to + length xs) lim)
    where
      go : (to + length xs ≤ lim) ⊎ (lim < to + length xs) → to ≤ r
      go (inl k) = omega (arith, p.after k)
      go (inr k) = omega (arith, p.over k)

  pub puts_upto : r ≤ lim + 1
  puts_upto = go (fits_or_not (to + length xs) lim)
    where
      go : (to + length xs ≤ lim) ⊎ (lim < to + length xs) → r ≤ lim + 1
      go (inl k) = omega (arith, p.after k)
      go (inr k) = omega (arith, p.over k)

  -- theorem: one run and then another is both as one
  pub puts_append : (ys : List ℕ) (r2 : ℕ) (w2 : List ℕ) → Puts w1 lim r ys r2 w2 → Puts w lim to (xs ++ ys) r2 w2
  puts_append ys r2 w2 q =
      let n = length-append xs ys in
      record {
        long = q.long ∙ p.long;
        whole = λ h. q.whole (omega (arith, p.after (omega arith))) ∙ ap (λ (s : List ℕ). store s r ys) (p.whole (omega arith)) ∙ store-append w to r xs ys (p.after (omega arith));
        after = λ h. omega (arith, p.after (omega arith), q.after (omega (arith, p.after (omega arith))));
        over = λ h. over_both h;
        others = λ h i k. elim (fits_or_not (i + 1) r) [
          | inl a ↦ beside q i (inl (omega arith)) ∙ puts_beside i k
          | inr a ↦ beside q i (inr (behind i k (omega arith))) ∙ puts_beside i k
        ];
      }
    where
      over_both : lim < to + length (xs ++ ys) → r2 ≡ lim + 1
      over_both h = elim (fits_or_not (to + length xs) lim) [
        | inl a ↦ q.over (omega (arith, length-append xs ys, p.after a))
        | inr a ↦ q.over (omega (arith, p.over a))
      ]

      beside : Puts w1 lim r ys r2 w2 → (i : ℕ) → (i < r) ⊎ (lim ≤ i) → get_or w2 i 0 ≡ get_or w1 i 0
      beside z i h = elim (fits_or_not (r + length ys) lim) [
        | inl a ↦ ap (λ (s : List ℕ). get_or s i 0) (z.whole a) ∙ store_beside w1 r ys lim i a h
        | inr a ↦ z.others a i h
      ]

      behind : (i : ℕ) → (i < to) ⊎ (lim ≤ i) → r ≤ i → lim ≤ i
      behind i (inr k) h = k
      behind i (inl k) h = elim (fits_or_not (to + length xs) lim) [
        | inl a ↦ absurd (omega (arith, p.after a))
        | inr a ↦ omega (arith, p.over a)
      ]

-- nothing, put where a cursor may stand
pub puts_none : (w : List ℕ) (lim to : ℕ) → to ≤ lim + 1 → Puts w lim to [] to w
puts_none w lim to h = record { long = refl; whole = λ k. sym (store-none w to); after = λ k. omega arith; over = λ k. omega arith; others = λ k i b. refl }

-- a run that fits, and one that does not
pub puts_whole : (w : List ℕ) (lim to : ℕ) (xs : List ℕ) (w1 : List ℕ) (n : ℕ) → n ≡ length xs → to + n ≤ lim → w1 ≡ store w to xs → Puts w lim to xs (to + n) w1
puts_whole w lim to xs w1 n z h e = record {
  long = ap (length {A = ℕ}) e ∙ length_store w to xs;
  whole = λ k. e;
  after = λ k. omega arith;
  over = λ k. absurd (omega arith);
  others = λ k. absurd (omega arith);
}

pub puts_not : (w : List ℕ) (lim to : ℕ) (xs : List ℕ) → lim < to + length xs → Puts w lim to xs (lim + 1) w
puts_not w lim to xs h = record { long = refl; whole = λ k. absurd (omega arith); after = λ k. absurd (omega arith); over = λ k. refl; others = λ k i b. refl }

-- what `put` says, of bytes of that length
pub put_ends : (w xs : List ℕ) (n lim to r : ℕ) (w1 : List ℕ) → length xs ≡ n → (to + n ≤ lim → (r ≡ to + n) × (w1 ≡ store w to xs)) → (lim < to + n → (r ≡ lim + 1) × (w1 ≡ w)) → Puts w lim to xs r w1
put_ends w xs n lim to r w1 l a b = go (fits_or_not (to + n) lim)
  where
    go : (to + n ≤ lim) ⊎ (lim < to + n) → Puts w lim to xs r w1
    go (inl h) = let (f, g) = a h in rw f (puts_whole w lim to xs w1 n (sym l) h g)
    go (inr h) = let (f, g) = b h in rw (f, g) (puts_not w lim to xs (omega (arith, l)))
