-- Hash, power and length of a text come from those of its parts, and nothing wraps. Assumes nothing.
use mathlib.Core.Path.{◌≡◌, refl, sym, ap, ◌∙◌}
use mathlib.Core.Bool.{Bool, true, false}
use mathlib.Core.List.{List, [], ◌∷◌, ◌++◌}
use Prim.Native.Nat.{ℕ, zero, suc, ◌+◌, ◌*◌, ◌/◌, ◌%◌, ◌<◌, ◌≤◌}
use native.Mathlib.Omega.{arith}
use native.Mathlib.Nat.{mod-lt, mod-mod, div-add-mod}
use borrow.Author.Tests.{lt-ltb, le-ltb, ltb-true, ltb-false}
use lib.Dec.{ltb}
use lib.ListN.{length, length-append}
use Rattle.octets.specs.Working.Choice.{pick}
use Rattle.texts.specs.Hash.{hash_by, power_by}
use Rattle.texts.specs.Forms.{stop, form_of, more}

-- ---- numbers modulo 2^32

-- a product of a number that is q * 2^32 + r
times-split : (a b q r : ℕ) → 4294967296 * q + r ≡ a → a * b ≡ r * b + 4294967296 * (q * b)
times-split a b q r e = rw (← e) (omega arith)

-- a factor may be taken modulo
pub mod_factor : (a b : ℕ) → a % 4294967296 * b % 4294967296 ≡ a * b % 4294967296
mod_factor a b = omega (arith, times-split a b (a / 4294967296) (a % 4294967296) (div-add-mod a 4294967296))

pub mod_factor_right : (a b : ℕ) → a * (b % 4294967296) % 4294967296 ≡ a * b % 4294967296
mod_factor_right a b = omega (arith, mod_factor b a)

pub sum_alike : (a b c d : ℕ) → a % 4294967296 ≡ b % 4294967296 → c % 4294967296 ≡ d % 4294967296 → (a + c) % 4294967296 ≡ (b + d) % 4294967296
sum_alike a b c d e f = omega arith

module _ (B : ℕ) where
  -- ---- bounds
  pub hash_from-small : (h : ℕ) (t : List ℕ) → h < 4294967296 → hash_by B h t < 4294967296
  unfolding hash_by
  hash_from-small h [] l = l
  hash_from-small h (b ∷ bs) l = hash_from-small ((h + b) * B % 4294967296) bs (mod-lt ((h + b) * B) (omega arith))

  pub power_small : (n : ℕ) → power_by B n < 4294967296
  unfolding power_by
  power_small zero = omega arith
  power_small (suc n) = mod-lt (power_by B n * B) (omega arith)

  -- ---- powers
  pub power-add : (m n : ℕ) → power_by B (m + n) ≡ power_by B m * power_by B n % 4294967296
  unfolding power_by
  power-add m zero = let z : m + 0 ≡ m = omega arith in let s = power_small m in rw z (omega arith)
  power-add m (suc n) =
      let z : m + suc n ≡ suc (m + n) = omega arith in
      let i = power-add m n in
      let e = mod_factor (power_by B m * power_by B n) B in
      let f = mod_factor_right (power_by B m) (power_by B n * B) in
      rw (z, i) (omega arith)

  -- ---- the hash of one text behind another
  step-turn : (h b p k : ℕ) → ((h + b) * B % 4294967296 * p + k) % 4294967296 ≡ (h * (p * B % 4294967296) + (b * B % 4294967296 * p + k) % 4294967296) % 4294967296
  step-turn h b p k =
      let l = sum_alike ((h + b) * B % 4294967296 * p) ((h + b) * B * p) k k (mod_factor ((h + b) * B) p) refl in
      let g = sum_alike (b * B % 4294967296 * p) (b * B * p) k k (mod_factor (b * B) p) refl in
      let m : (b * B % 4294967296 * p + k) % 4294967296 % 4294967296 ≡ (b * B * p + k) % 4294967296 = mod-mod (b * B % 4294967296 * p + k) 4294967296 ∙ g in
      let r = sum_alike (h * (p * B % 4294967296)) (h * (p * B)) ((b * B % 4294967296 * p + k) % 4294967296) (b * B * p + k) (mod_factor_right h (p * B)) m in
      let z : (h + b) * B * p + k ≡ h * (p * B) + (b * B * p + k) = omega arith in
      l ∙ ap (λ (x : ℕ). x % 4294967296) z ∙ sym r

  pub hash_from-is : (h : ℕ) (t : List ℕ) → h < 4294967296 → hash_by B h t ≡ (h * power_by B (length t) + hash_by B 0 t) % 4294967296
  unfolding hash_by power_by
  hash_from-is h [] l = omega arith
  hash_from-is h (b ∷ bs) l =
      let i = hash_from-is ((h + b) * B % 4294967296) bs (mod-lt ((h + b) * B) (omega arith)) in
      let j = hash_from-is ((0 + b) * B % 4294967296) bs (mod-lt ((0 + b) * B) (omega arith)) in
      let z : 0 + b ≡ b = omega arith in
      i ∙ step-turn h b (power_by B (length bs)) (hash_by B 0 bs) ∙ ap (λ (x : ℕ). (h * (power_by B (length bs) * B % 4294967296) + x) % 4294967296) (sym (j ∙ ap (λ (x : ℕ). (x * B % 4294967296 * power_by B (length bs) + hash_by B 0 bs) % 4294967296) z))

  hash_from-append : (h : ℕ) (xs ys : List ℕ) → hash_by B h (xs ++ ys) ≡ hash_by B (hash_by B h xs) ys
  unfolding hash_by
  hash_from-append h [] ys = refl
  hash_from-append h (x ∷ xs) ys = hash_from-append ((h + x) * B % 4294967296) xs ys

  pub hash_append : (xs ys : List ℕ) → hash_by B 0 (xs ++ ys) ≡ (hash_by B 0 xs * power_by B (length ys) + hash_by B 0 ys) % 4294967296
  unfolding hash_by
  hash_append xs ys = hash_from-append 0 xs ys ∙ hash_from-is (hash_by B 0 xs) ys (hash_from-small 0 xs (omega arith))

  -- ---- lengths
  stop-less : (n : ℕ) → n < 65536 → stop n ≡ n
  unfolding stop pick
  stop-less n l = cc (lt-ltb n 65536 l)

  stop-full : (n : ℕ) → 65536 ≤ n → stop n ≡ 65536
  unfolding stop pick
  stop-full n l = cc (le-ltb n 65536 l)

  data Stops (n : ℕ) : Type 0 where
    less : n < 65536 → stop n ≡ n → Stops n
    full : 65536 ≤ n → stop n ≡ 65536 → Stops n

  stops : (n : ℕ) → Stops n
  stops n = go (ltb n 65536) refl
    where
      go : (b : Bool) → ltb n 65536 ≡ b → Stops n
      go true e = let l = ltb-true n 65536 e in less l (stop-less n l)
      go false e = let l = ltb-false n 65536 e in full l (stop-full n l)

  -- theorem
  pub stop-small : (n : ℕ) → stop n ≤ 65536
  stop-small n = go (stops n)
    where
      go : Stops n → stop n ≤ 65536
      go (less l e) = omega arith
      go (full l e) = omega arith

  pub stop-add : (m n : ℕ) → stop (m + n) ≡ stop (stop m + stop n)
  stop-add m n = go (stops m) (stops n)
    where
      go : Stops m → Stops n → stop (m + n) ≡ stop (stop m + stop n)
      go (less l e) (less k f) = rw (e, f)
      go (less l e) (full k f) = stop-full (m + n) (omega arith) ∙ sym (stop-full (stop m + stop n) (omega arith))
      go (full l e) y = stop-full (m + n) (omega arith) ∙ sym (stop-full (stop m + stop n) (omega arith))

  -- ---- forms: what `join`, `snoc` and `one` of the code answer
  pub form_more : (xs : List ℕ) (b : ℕ) → form_of B (xs ++ (b ∷ [])) ≡ more B (form_of B xs) b
  unfolding form_of more hash_by power_by
  form_more xs b =
      let n : length (xs ++ (b ∷ [])) ≡ suc (length xs) = omega (arith, length-append xs (b ∷ [])) in
      let z : length xs + 1 ≡ suc (length xs) = omega arith in
      let o : stop 1 ≡ 1 = stop-less 1 (omega arith) in
      cc (n, z, o, hash_from-append 0 xs (b ∷ []), stop-add (length xs) 1)

-- ---- powers by two tables of 256
pub power-times : (B m k : ℕ) → power_by (power_by B m) k ≡ power_by B (k * m)
unfolding power_by
power-times B m zero = let z : 0 * m ≡ 0 = omega arith in rw z refl
power-times B m (suc k) =
    let z : suc k * m ≡ k * m + m = omega arith in
    rw (power-times B m k, z) (sym (power-add B (k * m) m))
