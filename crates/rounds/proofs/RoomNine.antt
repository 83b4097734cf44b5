-- Room for appending where the list of new texts has nine places more than symbols were pushed, whichever of the nine built-in texts are new: eight bytes that the tape's own texts leave are enough.
-- Assumes nothing.
use mathlib.Core.Path.{◌≡◌, refl}
use mathlib.Core.Bool.{Bool, true, false}
use Prim.Native.Nat.{ℕ, zero, suc, ◌+◌, ◌*◌, ◌/◌, ◌≤◌}
use native.Mathlib.Omega.{arith}
use borrow.Author.Tests.{leb-true, leb-false}
use lib.Dec.{leb}

-- no text is new
none_new : (W f fresh d s c qs : ℕ) → f + fresh + d + s ≤ W → 4 ≤ f → 31 ≤ qs → 9 * c + qs ≤ s → 1 ≤ c → c ≤ 2 → 8 * (c + 9) + 32 * (s / 9) + 2 * (W / 9) ≤ 5 * W + 8
none_new W f fresh d s zero qs a b h i j k = absurd (omega arith)
none_new W f fresh d s (suc zero) qs a b h i j k = omega arith
none_new W f fresh d s (suc (suc zero)) qs a b h i j k = omega arith
none_new W f fresh d s (suc (suc (suc c))) qs a b h i j k = absurd (omega arith)

-- theorem: W output, f bytes of the tape's atoms, `fresh` of new texts, d of replaced items, s of those to be replaced, E new texts, c pushed symbols, qd and qs heads. With one or two pushed symbols the
-- sum is tight in whole numbers only; without the eight bytes it fails at f = 4, s = 45, c = 1
pub append_nine : (W f fresh d s E c qd qs : ℕ) → f + fresh + d + s ≤ W → 4 ≤ f → 24 * E + 31 ≤ qd + qs + 4 * fresh → qd ≤ d → 31 ≤ qs → 9 * c + qs ≤ s → 1 ≤ c
    → 24 * E + 8 * (c + 9) + 32 * (s / 9) + 2 * (W / 9) ≤ 5 * W + 8
append_nine W f fresh d s E zero qd qs a b g t h i j = absurd (omega arith)
append_nine W f fresh d s zero (suc zero) qd qs a b g t h i j = none_new W f fresh d s 1 qs a b h i (omega arith) (omega arith)
append_nine W f fresh d s (suc e) (suc zero) qd qs a b g t h i j = omega arith
append_nine W f fresh d s zero (suc (suc zero)) qd qs a b g t h i j = none_new W f fresh d s 2 qs a b h i (omega arith) (omega arith)
append_nine W f fresh d s (suc e) (suc (suc zero)) qd qs a b g t h i j = omega arith
append_nine W f fresh d s E (suc (suc (suc c))) qd qs a b g t h i j = omega arith

-- ---- the same where m new names are those of levels of macros, whose items are gone after the first round
nine_core : (W fresh d s E c qs m k w : ℕ) → 4 + fresh + d + s ≤ W → 24 * E + 31 ≤ d + qs + 4 * fresh + 4 * m → 9 * c + qs ≤ s → 1 ≤ m → 5 * m ≤ fresh → 36 * m ≤ W → 9 * k ≤ s → 9 * w ≤ W → 74 ≤ W
    → 24 * E + 8 * (c + 9) + 32 * k + 2 * w ≤ 5 * W + 8
nine_core W fresh d s E c qs m k w a e g i j o p q r = omega arith

-- one new text and one pushed symbol
nine_one : (W fresh s k w : ℕ) → 4 + fresh + s ≤ W → 5 ≤ fresh → 40 ≤ s → 9 * k ≤ s → 9 * w ≤ W → 96 + 32 * k + 2 * w ≤ 5 * W
nine_one W fresh s k w a b c d e = go (leb k 4) refl
  where
    go : (t : Bool) → leb k 4 ≡ t → 96 + 32 * k + 2 * w ≤ 5 * W
    go true f = omega (arith, leb-true k 4 f)
    go false f = omega (arith, leb-false k 4 f)

-- and two
nine_two : (W fresh s k w : ℕ) → 4 + fresh + s ≤ W → 5 ≤ fresh → 49 ≤ s → 9 * k ≤ s → 9 * w ≤ W → 104 + 32 * k + 2 * w ≤ 5 * W
nine_two W fresh s k w a b c d e = go (leb k 5) refl
  where
    go : (t : Bool) → leb k 5 ≡ t → 104 + 32 * k + 2 * w ≤ 5 * W
    go true f = omega (arith, leb-true k 5 f)
    go false f = omega (arith, leb-false k 5 f)

-- few bytes of output: one name or two, up to three pushed symbols
nine_few : (W fresh d s E c qs m k w : ℕ) → 4 + fresh + d + s ≤ W → 24 * E + 31 ≤ d + qs + 4 * fresh + 4 * m → 9 * c + qs ≤ s → 31 ≤ qs → m ≤ 2 → 1 ≤ m → 5 * m ≤ fresh → 36 * m ≤ W → 9 * k ≤ s → 9 * w ≤ W → W ≤ 73 → 1 ≤ c
    → 24 * E + 8 * (c + 9) + 32 * k + 2 * w ≤ 5 * W + 8
nine_few W fresh d s E zero qs m k w a e g h i j o p q r t u = absurd (omega arith)
nine_few W fresh d s zero (suc zero) qs m k w a e g h i j o p q r t u = omega arith
nine_few W fresh d s (suc zero) (suc zero) qs m k w a e g h i j o p q r t u = omega (arith, nine_one W fresh s k w (omega arith) (omega arith) (omega arith) q r)
nine_few W fresh d s (suc (suc zero)) (suc zero) qs m k w a e g h i j o p q r t u = omega arith
nine_few W fresh d s (suc (suc (suc E))) (suc zero) qs m k w a e g h i j o p q r t u = omega arith
nine_few W fresh d s zero (suc (suc zero)) qs m k w a e g h i j o p q r t u = omega arith
nine_few W fresh d s (suc zero) (suc (suc zero)) qs m k w a e g h i j o p q r t u = omega (arith, nine_two W fresh s k w (omega arith) (omega arith) (omega arith) q r)
nine_few W fresh d s (suc (suc zero)) (suc (suc zero)) qs m k w a e g h i j o p q r t u = omega arith
nine_few W fresh d s (suc (suc (suc E))) (suc (suc zero)) qs m k w a e g h i j o p q r t u = omega arith
nine_few W fresh d s E (suc (suc (suc c))) qs m k w a e g h i j o p q r t u = omega arith

-- theorem
pub append_nine_levels : (W f fresh d s E c qd qs m : ℕ) → f + fresh + d + s ≤ W → 4 ≤ f → 24 * E + 31 ≤ qd + qs + 4 * fresh + 4 * m → qd ≤ d → 31 ≤ qs → 9 * c + qs ≤ s → 1 ≤ c → 5 * m ≤ fresh → 36 * m ≤ W
    → 24 * E + 8 * (c + 9) + 32 * (s / 9) + 2 * (W / 9) ≤ 5 * W + 8
append_nine_levels W f fresh d s E c qd qs zero a b g t h i j k l = append_nine W f fresh d s E c qd qs a b (omega arith) t h i j
append_nine_levels W f fresh d s E c qd qs (suc m) a b g t h i j k l = go (leb 74 W) refl
  where
    go : (z : Bool) → leb 74 W ≡ z → 24 * E + 8 * (c + 9) + 32 * (s / 9) + 2 * (W / 9) ≤ 5 * W + 8
    go true e = nine_core W fresh d s E c qs (suc m) (s / 9) (W / 9) (omega arith) (omega arith) i (omega arith) k l (omega arith) (omega arith) (leb-true 74 W e)
    go false e =
        let n = leb-false 74 W e in
        nine_few W fresh d s E c qs (suc m) (s / 9) (W / 9) (omega arith) (omega arith) i h (omega arith) (omega arith) k l (omega arith) (omega arith) (omega arith) j
