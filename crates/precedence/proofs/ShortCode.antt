-- A run of 8 to 16 bytes copied as two numbers, which may overlap. Assumes nothing.
use mathlib.Core.Path.{◌≡◌, refl, sym, ap, ◌∙◌}
use mathlib.Core.List.{List, [], ◌∷◌, ◌++◌}
use Prim.Native.Nat.{ℕ, suc, ◌+◌, ◌-◌, ◌<◌, ◌≤◌}
use native.Mathlib.Omega.{arith}
use borrow.Author.Rules.{rules}
use lib.ListN.{length, set, get_or}
use lib.Seq.{sets, set-set, set_comm}
use mir.Syntax.{w8}
use mir.Val.{Fits}
use Rattle.octets.specs.Plain.Numbers.{le_at, le}
use Rattle.octets.specs.Plain.Runs.{part}
use Rattle.octets.specs.Working.Stores.{store}
use Rattle.octets.proofs.PartLaws.{part_length}
use Rattle.octets.proofs.LiesLaws.{lies_append, lies_part, part_lies, lies_le}
use Rattle.octets.proofs.StoreLaws.{store-append}

-- ---- of two stores at one place, the second the longer, the second alone is left
set_before : (xs s : List ℕ) (at i v : ℕ) → i < at → set (sets s at xs) i v ≡ sets (set s i v) at xs
set_before [] s at i v h = refl
set_before (x ∷ xs) s at i v h =
    set_before xs (set s at x) (suc at) i v (omega arith) ∙ ap (λ (l : List ℕ). sets l (suc at) xs) (set_comm s at i x v (λ e. absurd (omega (arith, e))))

sets_over : (xs ys s : List ℕ) (at : ℕ) → length xs ≤ length ys → sets (sets s at xs) at ys ≡ sets s at ys
sets_over [] ys s at h = refl
sets_over (x ∷ xs) [] s at h = absurd (omega arith)
sets_over (x ∷ xs) (y ∷ ys) s at h =
    ap (λ (l : List ℕ). sets l (suc at) ys) (set_before xs (set s at x) (suc at) at y (omega arith) ∙ ap (λ (l : List ℕ). sets l (suc at) xs) (set-set s at x y))
    ∙ sets_over xs ys (set s at y) (suc at) (omega arith)

store-longer : (s : List ℕ) (at : ℕ) (xs ys : List ℕ) → length xs ≤ length ys → store (store s at xs) at ys ≡ store s at ys
unfolding store
store-longer s at xs ys h = sets_over xs ys s at h

-- ---- parts
part-split : (s : List ℕ) (a m e : ℕ) → a ≤ m → m ≤ e → e ≤ length s → part a e s ≡ part a m s ++ part m e s
part-split s a m e h k l = lies_part s a e (part a m s ++ part m e s) (lies_append (part_lies s a m h (omega arith)) (part_lies s m e k l))

-- the bytes of a number that was read are the part that it was read from
le-part : (w : ℕ) (s : List ℕ) (a e : ℕ) → ((i : ℕ) → Fits w8 (get_or s i 0)) → e ≡ a + w → e ≤ length s → le w (le_at w s a) ≡ part a e s
le-part w s a e b z h = sym (lies_part s a e (le w (le_at w s a)) (rw z (lies_le w s a (λ i. (b i).fits) (omega arith))))

-- ---- `copy_short`
pub short_done : (w m r : List ℕ) (a n to x y : ℕ) → ((i : ℕ) → Fits w8 (get_or w i 0)) → 8 ≤ n → n ≤ 16 → a + n ≤ length w → x ≡ le_at 8 w a → y ≡ le_at 8 w (a + (n - 8)) → m ≡ store w to (le 8 x)
    → r ≡ store m (to + (n - 8)) (le 8 y) → r ≡ store w to (part a (a + n) w)
short_done w m r a n to x y b h k l p q i j =
    let u = part_length a (a + (n - 8)) w (omega arith) in
    let v = part_length (a + (n - 8)) (a + 8) w (omega arith) in
    let t = part_length (a + (n - 8)) (a + n) w (omega arith) in
    cc (
      p,
      q,
      i,
      j,
      le-part 8 w a (a + 8) b refl (omega arith),
      le-part 8 w (a + (n - 8)) (a + n) b (omega arith) l,
      part-split w a (a + (n - 8)) (a + 8) (omega arith) (omega arith) (omega arith),
      part-split w a (a + (n - 8)) (a + n) (omega arith) (omega arith) l,
      store-append w to (to + (n - 8)) (part a (a + (n - 8)) w) (part (a + (n - 8)) (a + 8) w) (omega arith),
      store-append w to (to + (n - 8)) (part a (a + (n - 8)) w) (part (a + (n - 8)) (a + n) w) (omega arith),
      store-longer (store w to (part a (a + (n - 8)) w)) (to + (n - 8)) (part (a + (n - 8)) (a + 8) w) (part (a + (n - 8)) (a + n) w) (omega arith),
    )

-- ---- `copy_within`
module _ (w r : List ℕ) (a e to n : ℕ) (z : n ≡ e - a) (h : a ≤ e) where
  pub within_short : r ≡ store w to (part a (a + n) w) → r ≡ store w to (part a e w)
  within_short i = i ∙ ap (λ (k : ℕ). store w to (part a k w)) (omega arith)

pub ruleset copying_short = (rules, short_done, within_short)
