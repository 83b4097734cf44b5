-- The laws of little-endian numbers: one for every width. Assumes nothing.
use mathlib.Core.Path.{◌≡◌, refl, ap, ◌∙◌}
use mathlib.Core.List.{List, [], ◌∷◌, ◌++◌, append_assoc}
use Prim.Native.Nat.{ℕ, zero, suc, ◌+◌, ◌*◌, ◌/◌, ◌%◌, ◌^◌, ◌≤◌, ◌<◌}
use native.Mathlib.Nat.{pow-succ'}
use native.Mathlib.Omega.{arith}
use lib.ListN.{length, get_or, take, drop}
use Rattle.std.proofs.lemmas.List.{get_or-take, get_or-drop}
use Rattle.octets.specs.Plain.Numbers.{le_at, le}

pub length-le : (w v : ℕ) → length (le w v) ≡ w
unfolding le
length-le zero v = refl
length-le (suc w) v = ap suc (length-le w (v / 256))

-- ---- two bytes, and what is behind them
two_at : (w : ℕ) (s : List ℕ) (at : ℕ) → le_at (suc (suc w)) s at ≡ le_at 2 s at + le_at w s (at + 2) * 65536
unfolding le_at
two_at w s at =
    let z : at + 1 + 1 ≡ at + 2 = omega arith in
    let k : le_at w s (at + 1 + 1) ≡ le_at w s (at + 2) = rw z in
    omega arith

two_le : (w v : ℕ) → le (suc (suc w)) v ≡ le 2 (v % 65536) ++ le w (v / 65536)
unfolding le
two_le w v =
    let a : v % 256 ≡ v % 65536 % 256 = omega arith in
    let c : v / 256 / 256 ≡ v / 65536 = omega arith in
    let b : v % 65536 / 256 ≡ v / 256 % 256 = omega arith in
    let d : v % 65536 / 256 % 256 ≡ v % 65536 / 256 = omega arith in
    cc

-- ---- the readers: r is what std reads the bytes as
moved : (s : List ℕ) (i j : ℕ) → i ≡ j → get_or s i 0 ≡ get_or s j 0
moved s i j e = rw e

-- b is what stands in s from `at` on
module _ (s b : List ℕ) (at n : ℕ) (e : b ≡ take n (drop at s)) where
  byte_is : (i : ℕ) → i < n → get_or b i 0 ≡ get_or s (at + i) 0
  byte_is i h = rw e (get_or-take n (drop at s) i 0 h ∙ get_or-drop at s i 0)

  from : (w i : ℕ) → i + w ≤ n → le_at w b i ≡ le_at w s (at + i)
  unfolding le_at
  from zero i h = refl
  from (suc w) i h =
      let z : at + (i + 1) ≡ at + i + 1 = omega arith in
      cc (byte_is i (omega arith), from w (i + 1) (omega arith))

  pub bytes_read : (w : ℕ) → w ≤ n → le_at w b 0 ≡ le_at w s at
  bytes_read w h = from w 0 (omega arith) ∙ ap (le_at w s) (omega arith)

module _ (b : List ℕ) (r : ℕ) where
  pub read_16 : r ≡ get_or b 0 0 + get_or b 1 0 * 256 → r ≡ le_at 2 b 0
  unfolding le_at
  read_16 p = omega arith

  pub read_32 : r ≡ get_or b 0 0 + get_or b 1 0 * 256 + get_or b 2 0 * 65536 + get_or b 3 0 * 16777216 → r ≡ le_at 4 b 0
  unfolding le_at
  read_32 p = omega arith

  pub read_64 : r ≡ get_or b 0 0 + get_or b 1 0 * 256 + get_or b 2 0 * 65536 + get_or b 3 0 * 16777216 + get_or b 4 0 * 4294967296 + get_or b 5 0 * 1099511627776 + get_or b 6 0 * 281474976710656 + get_or b 7 0 * 72057594037927936 → r ≡ le_at 8 b 0
  unfolding le_at
  read_64 p = omega arith

module _ (s : List ℕ) (at r : ℕ) where
  read_24 : r ≡ get_or s at 0 + get_or s (at + 1) 0 * 256 + get_or s (at + 2) 0 * 65536 → r ≡ le_at 3 s at
  unfolding le_at
  read_24 p = omega (arith, moved s (at + 1 + 1) (at + 2) (omega arith))

  pub read_atom_three : (width : ℕ) → 2 ≤ width → width ≤ 3 → (width ≡ 2 → ⊥) → r ≡ get_or s at 0 + get_or s (at + 1) 0 * 256 + get_or s (at + 2) 0 * 65536 → r ≡ le_at width s at
  read_atom_three width g h n p =
      let e : width ≡ 3 = omega arith in
      rw e (read_24 p)

-- ---- the writers: a number's bytes as std has them
pub bytes-16 : (v : ℕ) → v % 256 ∷ v / 256 % 256 ∷ [] ≡ le 2 v
unfolding le
bytes-16 v = refl

pub bytes-32 : (v : ℕ) → v % 256 ∷ v / 256 % 256 ∷ v / 65536 % 256 ∷ v / 16777216 % 256 ∷ [] ≡ le 4 v
unfolding le
bytes-32 v =
    let d2 : v / 256 / 256 ≡ v / 65536 = omega arith in
    let d3 : v / 65536 / 256 ≡ v / 16777216 = omega arith in
    cc

pub bytes-64 : (v : ℕ) → v % 256 ∷ v / 256 % 256 ∷ v / 65536 % 256 ∷ v / 16777216 % 256 ∷ v / 4294967296 % 256 ∷ v / 1099511627776 % 256 ∷ v / 281474976710656 % 256 ∷ v / 72057594037927936 % 256 ∷ [] ≡ le 8 v
unfolding le
bytes-64 v =
    let d2 : v / 256 / 256 ≡ v / 65536 = omega arith in
    let d3 : v / 65536 / 256 ≡ v / 16777216 = omega arith in
    let d4 : v / 16777216 / 256 ≡ v / 4294967296 = omega arith in
    let d5 : v / 4294967296 / 256 ≡ v / 1099511627776 = omega arith in
    let d6 : v / 1099511627776 / 256 ≡ v / 281474976710656 = omega arith in
    let d7 : v / 281474976710656 / 256 ≡ v / 72057594037927936 = omega arith in
    cc

-- ---- eight bytes are four and four
pub halves_at : (s : List ℕ) (at : ℕ) → le_at 4 s at + le_at 4 s (at + 4) * 4294967296 ≡ le_at 8 s at
halves_at s at =
    let z : at + 2 + 2 ≡ at + 4 = omega arith in
    let k : le_at 4 s (at + 2 + 2) ≡ le_at 4 s (at + 4) = rw z in
    omega (arith, two_at 6 s at, two_at 4 s (at + 2), two_at 2 s at)

pub le-64 : (v : ℕ) → le 8 v ≡ le 4 (v % 4294967296) ++ le 4 (v / 4294967296)
le-64 v =
    let a : v % 4294967296 % 65536 ≡ v % 65536 = omega arith in
    let c : v / 65536 / 65536 ≡ v / 4294967296 = omega arith in
    let b : v % 4294967296 / 65536 ≡ v / 65536 % 65536 = omega arith in
    cc (two_le 6 v, two_le 4 (v / 65536), two_le 2 (v % 4294967296), append_assoc (le 2 (v % 65536)) (le 2 (v / 65536 % 65536)) (le 4 (v / 4294967296)))

-- ---- a number in two or three bytes is that of its lowest four
rest-is : (k m h : ℕ) → k ≡ 256 * h + m → k / 256 ≡ h + m / 256
rest-is k m h e = omega arith

low-is : (k m h : ℕ) → k ≡ 256 * h + m → m % 256 ≡ k % 256
low-is k m h e = omega (arith, rest-is k m h e)

low_of : (w k m h : ℕ) → k ≡ 256 ^ w * h + m → le w m ≡ le w k
unfolding le
low_of zero k m h e = refl
low_of (suc w) k m h e =
    let f : k ≡ 256 * (256 ^ w * h) + m = e ∙ ap (λ (x : ℕ). x * h + m) (pow-succ' 256 w) ∙ omega arith in
    cc (low-is k m (256 ^ w * h) f, low_of w (k / 256) (m / 256) h (rest-is k m (256 ^ w * h) f))

pub low_bytes : (wd k : ℕ) → 2 ≤ wd → wd ≤ 3 → le wd (k % 4294967296) ≡ le wd k
low_bytes zero k a b = absurd (omega arith)
low_bytes (suc zero) k a b = absurd (omega arith)
low_bytes (suc (suc zero)) k a b = low_of 2 k (k % 4294967296) (65536 * (k / 4294967296)) (omega arith)
low_bytes (suc (suc (suc zero))) k a b = low_of 3 k (k % 4294967296) (256 * (k / 4294967296)) (omega arith)
low_bytes (suc (suc (suc (suc n)))) k a b = absurd (omega arith)
