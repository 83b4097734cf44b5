-- Lists by index, and the place of an element in them. Assumes nothing.
use mathlib.Core.Path.{◌≡◌, refl, sym, ap, ◌∙◌, subst}
use mathlib.Core.Bool.{Bool, true, false, cond, false≢true}
use mathlib.Core.List.{List, [], ◌∷◌, ◌++◌}
use Prim.Native.Nat.{ℕ, zero, suc, ◌+◌, ◌<◌}
use native.Mathlib.Omega.{arith}
use borrow.Author.Tests.{eqb-true, eqb-false, eq-eqb, ne_eqb}
use lib.Dec.{eqb}
use lib.ListN.{length, length-append}
use Rattle.parse_tree.specs.Working.Within.{Each}
use Rattle.replacing.specs.Slots.{among, place_in}
use Rattle.expander.specs.Held.{down, upto, keep_if, any_of}

pub down-same : (f g : ℕ → ℕ) (n : ℕ) → ((i : ℕ) → i < n → f i ≡ g i) → down f n ≡ down g n
unfolding down
down-same f g zero h = refl
down-same f g (suc n) h = cc (h n (omega arith), down-same f g n (λ i k. h i (omega arith)))

pub upto-same : (f g : ℕ → ℕ) (n : ℕ) → ((i : ℕ) → i < n → f i ≡ g i) → upto f n ≡ upto g n
unfolding upto
upto-same f g zero h = refl
upto-same f g (suc n) h = cc (h n (omega arith), upto-same f g n (λ i k. h i (omega arith)))

pub length_upto : (f : ℕ → ℕ) (n : ℕ) → length (upto f n) ≡ n
unfolding upto
length_upto f zero = refl
length_upto f (suc n) = length-append (upto f n) (f n ∷ []) ∙ (omega (arith, length_upto f n))

-- an element of the first n is the last of them, or one before
before_last : (j n : ℕ) → j < suc n → (j ≡ n → ⊥) → j < n
before_last j n k e = omega arith

pub each-down : (P : ℕ → Type 0) (f : ℕ → ℕ) (n : ℕ) → Each P (down f n) → (j : ℕ) → j < n → P (f j)
unfolding down
each-down P f zero h j k = absurd (omega arith)
each-down P f (suc n) h j k = go (eqb j n) refl (each-down P f n h.1 j)
  where
    go : (b : Bool) → eqb j n ≡ b → (j < n → P (f j)) → P (f j)
    go true e r = subst (λ (v : ℕ). P (f v)) (sym (eqb-true j n e)) h.0
    go false e r = r (before_last j n k (eqb-false j n e))

pub keep_down : (f g : ℕ → Bool) (k : ℕ → ℕ) (n : ℕ) → ((i : ℕ) → i < n → f (k i) ≡ g (k i)) → keep_if f (down k n) ≡ keep_if g (down k n)
unfolding down keep_if
keep_down f g k zero h = refl
keep_down f g k (suc n) h = rw (h n (omega arith), keep_down f g k n (λ i l. h i (omega arith))) refl

pub any_down : (f g : ℕ → Bool) (k : ℕ → ℕ) (n : ℕ) → ((i : ℕ) → i < n → f (k i) ≡ g (k i)) → any_of f (down k n) ≡ any_of g (down k n)
unfolding down any_of
any_down f g k zero h = refl
any_down f g k (suc n) h = rw (h n (omega arith), any_down f g k n (λ i l. h i (omega arith))) refl

-- ---- one list behind another
among_first : (q : ℕ) (xs ys : List ℕ) → among q xs ≡ true → among q (xs ++ ys) ≡ true
unfolding among
among_first q [] ys h = absurd (false≢true h)
among_first q (p ∷ xs) ys h = go (eqb p q) h (among_first q xs ys)
  where
    go : (b : Bool) → cond b true (among q xs) ≡ true → (among q xs ≡ true → among q (xs ++ ys) ≡ true) → cond b true (among q (xs ++ ys)) ≡ true
    go true e r = refl
    go false e r = r e

among_second : (q : ℕ) (xs ys : List ℕ) → among q xs ≡ false → among q (xs ++ ys) ≡ among q ys
unfolding among
among_second q [] ys h = refl
among_second q (p ∷ xs) ys h = go (eqb p q) h (among_second q xs ys)
  where
    go : (b : Bool) → cond b true (among q xs) ≡ false → (among q xs ≡ false → among q (xs ++ ys) ≡ among q ys) → cond b true (among q (xs ++ ys)) ≡ among q ys
    go true e r = absurd (false≢true (sym e))
    go false e r = r e

place_first : (q : ℕ) (xs ys : List ℕ) → among q xs ≡ true → place_in q (xs ++ ys) ≡ place_in q xs
unfolding among place_in
place_first q [] ys h = absurd (false≢true h)
place_first q (p ∷ xs) ys h = go (eqb p q) h (place_first q xs ys)
  where
    go : (b : Bool) → cond b true (among q xs) ≡ true → (among q xs ≡ true → place_in q (xs ++ ys) ≡ place_in q xs) → cond b 0 (suc (place_in q (xs ++ ys))) ≡ cond b 0 (suc (place_in q xs))
    go true e r = refl
    go false e r = ap suc (r e)

place_second : (q : ℕ) (xs ys : List ℕ) → among q xs ≡ false → place_in q (xs ++ ys) ≡ length xs + place_in q ys
unfolding among place_in
place_second q [] ys h = omega arith
place_second q (p ∷ xs) ys h = go (eqb p q) h (place_second q xs ys)
  where
    go : (b : Bool) → cond b true (among q xs) ≡ false → (among q xs ≡ false → place_in q (xs ++ ys) ≡ length xs + place_in q ys) → cond b 0 (suc (place_in q (xs ++ ys))) ≡ suc (length xs) + place_in q ys
    go true e r = absurd (false≢true (sym e))
    go false e r = let z = r e in omega arith

among_one : (q : ℕ) → among q (q ∷ []) ≡ true
unfolding among
among_one q = cc (eq-eqb q q refl)

among-other : (q p : ℕ) → (p ≡ q → ⊥) → among q (p ∷ []) ≡ false
unfolding among
among-other q p n = cc (ne_eqb p q n)

place_one : (q : ℕ) → place_in q (q ∷ []) ≡ 0
unfolding place_in
place_one q = cc (eq-eqb q q refl)

-- ---- in a list by index
pub among_none : (q : ℕ) (f : ℕ → ℕ) (c : ℕ) → ((i : ℕ) → i < c → f i ≡ q → ⊥) → among q (upto f c) ≡ false
unfolding upto among
among_none q f zero h = refl
among_none q f (suc c) h = among_second q (upto f c) (f c ∷ []) (among_none q f c (λ i k. h i (omega arith))) ∙ among-other q (f c) (h c (omega arith))

pub among-upto : (f : ℕ → ℕ) (c i : ℕ) → i < c → among (f i) (upto f c) ≡ true
unfolding upto
among-upto f zero i h = absurd (omega arith)
among-upto f (suc c) i h = go (among (f i) (upto f c)) refl (eqb i c) refl (among-upto f c i)
  where
    go : (a : Bool) → among (f i) (upto f c) ≡ a → (b : Bool) → eqb i c ≡ b → (i < c → among (f i) (upto f c) ≡ true) → among (f i) (upto f c ++ (f c ∷ [])) ≡ true
    go true y b e r = among_first (f i) (upto f c) (f c ∷ []) y
    go false y true e r = among_second (f i) (upto f c) (f c ∷ []) y ∙ ap (λ (v : ℕ). among (f i) (f v ∷ [])) (sym (eqb-true i c e)) ∙ among_one (f i)
    go false y false e r = absurd (false≢true (sym y ∙ r (before_last i c h (eqb-false i c e))))

-- the place of an element that stands once
pub place_upto : (f : ℕ → ℕ) (c i : ℕ) → i < c → ((a b : ℕ) → a < c → b < c → f a ≡ f b → a ≡ b) → place_in (f i) (upto f c) ≡ i
unfolding upto
place_upto f zero i h d = absurd (omega arith)
place_upto f (suc c) i h d = go (eqb i c) refl (λ l. place_upto f c i l (λ a b x y. d a b (omega arith) (omega arith)))
  where
    once : among (f c) (upto f c) ≡ false
    once = among_none (f c) f c (λ a x e. let z = d a c (omega arith) (omega arith) e in omega arith)

    last : place_in (f c) (upto f c ++ (f c ∷ [])) ≡ c
    last = let z = place_one (f c) in let y = length_upto f c in place_second (f c) (upto f c) (f c ∷ []) once ∙ (omega arith)

    go : (b : Bool) → eqb i c ≡ b → (i < c → place_in (f i) (upto f c) ≡ i) → place_in (f i) (upto f c ++ (f c ∷ [])) ≡ i
    go true e r = subst (λ (v : ℕ). place_in (f v) (upto f c ++ (f c ∷ [])) ≡ v) (sym (eqb-true i c e)) last
    go false e r = let l = before_last i c h (eqb-false i c e) in place_first (f i) (upto f c) (f c ∷ []) (among-upto f c i l) ∙ r l
