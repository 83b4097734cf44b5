-- The laws of `store`: those that compose have no side condition. Assumes nothing.
use mathlib.Core.Path.{◌≡◌, refl, sym, ap, ◌∙◌}
use mathlib.Core.Logic.{◌⊎◌, inl, inr}
use mathlib.Core.List.{List, [], ◌∷◌, ◌++◌, append_assoc}
use Prim.Native.Nat.{ℕ, zero, suc, ◌+◌, ◌/◌, ◌%◌, ◌^◌, ◌≤◌, ◌<◌}
use native.Mathlib.Omega.{arith}
use native.Mathlib.Numerals.{add-one}
use borrow.Author.Rules.{rules}
use lib.ListN.{length, take, drop, set, get_or}
use lib.Seq.{sets, sets-eq, length-sets, get_or-set_other, length-take-le, drop_at, drop-drop, drop-set-lt, drop-append_seam}
use Rattle.octets.specs.Plain.Numbers.{le_at, le}
use Rattle.octets.specs.Working.Stores.{store}
use Rattle.octets.specs.Plain.Runs.{Lies}
use Rattle.octets.proofs.NumbersLaws.{length-le}
use Rattle.octets.proofs.LiesLaws.{le_read}

pub store-none : (s : List ℕ) (at : ℕ) → store s at [] ≡ s
unfolding store
store-none s at = refl

pub length_store : (s : List ℕ) (at : ℕ) (vs : List ℕ) → length (store s at vs) ≡ length s
unfolding store
length_store s at vs = length-sets s at vs

sets_append : (vs ws s : List ℕ) (at n : ℕ) → n ≡ at + length vs → sets (sets s at vs) n ws ≡ sets s at (vs ++ ws)
sets_append [] ws s at n e = let z : n ≡ at = omega arith in rw z
sets_append (v ∷ vs) ws s at n e = sets_append vs ws (set s at v) (suc at) n (omega arith)

-- a run of stores is one store
pub store-append : (s : List ℕ) (at n : ℕ) (vs ws : List ℕ) → n ≡ at + length vs → store (store s at vs) n ws ≡ store s at (vs ++ ws)
unfolding store
store-append s at n vs ws e = sets_append vs ws s at n e

-- what a store comes to, where it fits
pub store_is : (s : List ℕ) (at : ℕ) (vs : List ℕ) → at + length vs ≤ length s → store s at vs ≡ take at s ++ vs ++ drop (at + length vs) s
unfolding store
store_is s at vs h = sets-eq vs s at h

-- what is behind a store stays
sets_drop : (vs s : List ℕ) (a n : ℕ) → a + length vs ≤ n → drop n (sets s a vs) ≡ drop n s
sets_drop [] s a n h = refl
sets_drop (v ∷ vs) s a n h = sets_drop vs (set s a v) (suc a) n (omega arith) ∙ drop-set-lt n s a v (omega arith)

pub store-drop : (s : List ℕ) (a n : ℕ) (vs : List ℕ) → a + length vs ≤ n → drop n (store s a vs) ≡ drop n s
unfolding store
store-drop s a n vs h = sets_drop vs s a n h

-- ---- the stores of the code: a part of a slice, of k bytes, written anew
pub store-part : (s ys : List ℕ) (a k : ℕ) → a + k ≤ length s → k ≡ length ys → take a s ++ (ys ++ drop k (drop a s)) ≡ store s a ys
store-part s ys a k h e =
    let b : drop k (drop a s) ≡ drop (a + length ys) s = drop-drop k a s ∙ ap (λ (n : ℕ). drop n s) (omega arith) in
    rw b (sym (append_assoc (take a s) ys (drop (a + length ys) s)) ∙ sym (store_is s a ys (omega arith)))

-- the same with what was copied there
pub store-copied : (s ys zs : List ℕ) (a k : ℕ) → ys ≡ zs → a + k ≤ length s → k ≡ length zs → take a s ++ (ys ++ drop k (drop a s)) ≡ store s a zs
store-copied s ys zs a k p h e = rw p (store-part s zs a k h e)

-- ---- an atom's number: b is the bytes of v
module _ (s b : List ℕ) (at wd v : ℕ) (j : b ≡ v % 256 ∷ v / 256 % 256 ∷ v / 65536 % 256 ∷ v / 16777216 % 256 ∷ []) where
  pub put_two : 2 ≤ wd → wd ≤ 3 → (wd ≡ 3 → ⊥) → set (set s at (get_or b 0 0)) (at + 1) (get_or b 1 0) ≡ store s at (le wd v)
  unfolding store le
  put_two g h n =
      let z : wd ≡ 2 = omega arith in
      rw (z, j, add-one at) refl

  pub put_three : wd ≡ 3 → set (set (set s at (get_or b 0 0)) (at + 1) (get_or b 1 0)) (at + 2) (get_or b 2 0) ≡ store s at (le wd v)
  unfolding store le
  put_three z =
      let d : v / 256 / 256 ≡ v / 65536 = omega arith in
      let two : at + 2 ≡ suc (suc at) = omega arith in
      rw (z, j, add-one at, two, d) refl

pub ruleset putting_atom = (rules, put_two, put_three)

-- ---- what is read after a store
sets_before : (vs s : List ℕ) (at i : ℕ) → i < at → get_or (sets s at vs) i 0 ≡ get_or s i 0
sets_before [] s at i h = refl
sets_before (v ∷ vs) s at i h =
    sets_before vs (set s at v) (suc at) i (omega arith) ∙ get_or-set_other s at i v 0 (λ e. absurd (omega (arith, e)))

pub get_d_store_before : (s : List ℕ) (at : ℕ) (vs : List ℕ) (i : ℕ) → i < at → get_or (store s at vs) i 0 ≡ get_or s i 0
unfolding store
get_d_store_before s at vs i h = sets_before vs s at i h

sets_after : (vs s : List ℕ) (at i : ℕ) → at + length vs ≤ i → get_or (sets s at vs) i 0 ≡ get_or s i 0
sets_after [] s at i h = refl
sets_after (v ∷ vs) s at i h =
    sets_after vs (set s at v) (suc at) i (omega arith) ∙ get_or-set_other s at i v 0 (λ e. absurd (omega (arith, e)))

pub get_d_store_after : (s : List ℕ) (at : ℕ) (vs : List ℕ) (i : ℕ) → at + length vs ≤ i → get_or (store s at vs) i 0 ≡ get_or s i 0
unfolding store
get_d_store_after s at vs i h = sets_after vs s at i h

-- a number is as it was where a store doesn't reach
pub le_at-other : (w : ℕ) (s : List ℕ) (at : ℕ) (vs : List ℕ) (a : ℕ) → (a + w ≤ at) ⊎ (at + length vs ≤ a) → le_at w (store s at vs) a ≡ le_at w s a
unfolding le_at
le_at-other zero s at vs a h = refl
le_at-other (suc w) s at vs a (inl h) =
    cc (get_d_store_before s at vs a (omega arith), le_at-other w s at vs (a + 1) (inl (omega arith)))
le_at-other (suc w) s at vs a (inr h) =
    cc (get_d_store_after s at vs a h, le_at-other w s at vs (a + 1) (inr (omega arith)))

-- what was stored lies there
pub lies_store : (s : List ℕ) (at : ℕ) (vs : List ℕ) → at + length vs ≤ length s → Lies (store s at vs) at vs (at + length vs)
lies_store s at vs h =
    let e : store s at vs ≡ take at s ++ (vs ++ drop (at + length vs) s) = store_is s at vs h ∙ append_assoc (take at s) vs (drop (at + length vs) s) in
    let l = length-take-le at s (omega arith) in
    let d : drop at (store s at vs) ≡ vs ++ drop (at + length vs) s = rw e (drop_at (take at s) (vs ++ drop (at + length vs) s) at l) in
    let f : drop (at + length vs) (store s at vs) ≡ drop (at + length vs) s = sym (drop-drop (length vs) at (store s at vs)) ∙ ap (drop (length vs)) d ∙ drop-append_seam vs (drop (at + length vs) s) in
    record { is = d ∙ ap (λ (l : List ℕ). vs ++ l) (sym f); end = refl }

-- and a number that was stored is read
pub le_at-same : (w : ℕ) (s : List ℕ) (at v : ℕ) → at + w ≤ length s → v < 256 ^ w → le_at w (store s at (le w v)) at ≡ v
le_at-same w s at v h k = le_read w (store s at (le w v)) at v (at + length (le w v)) k (lies_store s at (le w v) (omega (arith, length-le w v)))
