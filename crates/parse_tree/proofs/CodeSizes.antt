-- How many bytes a command has, by its code. Assumes nothing.
use mathlib.Core.Path.{◌≡◌, refl}
use mathlib.Core.Bool.{Bool, true, false}
use mathlib.Core.Logic.{◌⊎◌, inl, inr}
use Prim.Native.Nat.{ℕ, ◌+◌, ◌<◌, ◌≤◌}
use native.Mathlib.Omega.{arith}
use borrow.Author.Rules.{rules}
use borrow.Author.Tests.{ne_eqb, eqb-true, eqb-false, ltb-true, ltb-false}
use lib.Dec.{eqb, ltb}
use Rattle.octets.specs.Working.Choice.{pick}
use Rattle.octets.proofs.ChoiceLaws.{by_pick}
use Rattle.parse_tree.specs.Working.Nodes.{code_size, long_of}

-- ---- a command of an alternative, by its code
module _ (w c : ℕ) where
  pub long_18 : c ≡ 18 → 14 + w ≡ long_of w c
  unfolding long_of pick
  long_18 e = rw e refl

  pub long_19 : c ≡ 19 → 2 + w + w + w ≡ long_of w c
  unfolding long_of pick
  long_19 e = rw e refl

  pub long_20 : c ≡ 20 → 10 + w + w ≡ long_of w c
  unfolding long_of pick
  long_20 e = rw e refl

  pub long_32 : c ≡ 32 → 9 + w ≡ long_of w c
  unfolding long_of pick
  long_32 e = rw e refl

  pub long_33 : c ≡ 33 → 9 + w ≡ long_of w c
  unfolding long_of pick
  long_33 e = rw e refl

  pub long_34 : c ≡ 34 → 9 + w ≡ long_of w c
  unfolding long_of pick
  long_34 e = rw e refl

  pub long_35 : c ≡ 35 → 9 + w ≡ long_of w c
  unfolding long_of pick
  long_35 e = rw e refl

  pub long_36 : c ≡ 36 → 9 + w ≡ long_of w c
  unfolding long_of pick
  long_36 e = rw e refl

  pub long_37 : c ≡ 37 → 10 + w ≡ long_of w c
  unfolding long_of pick
  long_37 e = rw e refl

  pub long_38 : c ≡ 38 → 10 ≡ long_of w c
  unfolding long_of pick
  long_38 e = rw e refl

  pub long_40 : c ≡ 40 → 10 + w ≡ long_of w c
  unfolding long_of pick
  long_40 e = rw e refl

  pub long_41 : c ≡ 41 → 11 ≡ long_of w c
  unfolding long_of pick
  long_41 e = rw e refl

  pub long_other : (c ≡ 18 → ⊥) → (c ≡ 19 → ⊥) → (c ≡ 20 → ⊥) → (c ≡ 32 → ⊥) → (c ≡ 33 → ⊥) → (c ≡ 34 → ⊥) → (c ≡ 35 → ⊥) → (c ≡ 36 → ⊥) → (c ≡ 37 → ⊥) → (c ≡ 38 → ⊥) → (c ≡ 40 → ⊥) → (c ≡ 41 → ⊥) → 9 ≡ long_of w c
  unfolding long_of pick
  long_other n18 n19 n20 n32 n33 n34 n35 n36 n37 n38 n40 n41 =
      simp (ne_eqb c 18 n18, ne_eqb c 19 n19, ne_eqb c 20 n20, ne_eqb c 32 n32, ne_eqb c 33 n33, ne_eqb c 34 n34, ne_eqb c 35 n35, ne_eqb c 36 n36, ne_eqb c 37 n37, ne_eqb c 38 n38, ne_eqb c 40 n40, ne_eqb c 41 n41)

pub ruleset lengthening = (rules, long_18, long_19, long_20, long_32, long_33, long_34, long_35, long_36, long_37, long_38, long_40, long_41, long_other)

-- ---- a command by its code
module _ (w c : ℕ) where
  pub size_16 : c ≡ 16 → 13 + w ≡ code_size w c
  unfolding code_size pick
  size_16 e = rw e refl

  pub size_17 : c ≡ 17 → 1 + w ≡ code_size w c
  unfolding code_size pick
  size_17 e = rw e refl

  pub size_18 : c ≡ 18 → 14 + w ≡ code_size w c
  unfolding code_size long_of pick
  size_18 e = rw e refl

  pub size_19 : c ≡ 19 → 2 + w + w + w ≡ code_size w c
  unfolding code_size long_of pick
  size_19 e = rw e refl

  pub size_20 : c ≡ 20 → 10 + w + w ≡ code_size w c
  unfolding code_size long_of pick
  size_20 e = rw e refl

  pub size_48 : c ≡ 48 → 9 + w ≡ code_size w c
  unfolding code_size pick
  size_48 e = rw e refl

  pub size_49 : c ≡ 49 → 9 + w ≡ code_size w c
  unfolding code_size pick
  size_49 e = rw e refl

  pub size_37 : c ≡ 37 → 10 + w ≡ code_size w c
  unfolding code_size long_of pick
  size_37 e = rw e refl

  pub size_38 : c ≡ 38 → 10 ≡ code_size w c
  unfolding code_size long_of pick
  size_38 e = rw e refl

  pub size_39 : c ≡ 39 → 9 ≡ code_size w c
  unfolding code_size long_of pick
  size_39 e = rw e refl

  pub size_40 : c ≡ 40 → 10 + w ≡ code_size w c
  unfolding code_size long_of pick
  size_40 e = rw e refl

  pub size_41 : c ≡ 41 → 11 ≡ code_size w c
  unfolding code_size long_of pick
  size_41 e = rw e refl

  outside : (c ≡ 32 → ⊥) → (c ≡ 33 → ⊥) → (c ≡ 34 → ⊥) → (c ≡ 35 → ⊥) → (c ≡ 36 → ⊥) → (c < 32) ⊎ (36 < c)
  outside n32 n33 n34 n35 n36 = go (ltb c 32) refl
    where
      go : (b : Bool) → ltb c 32 ≡ b → (c < 32) ⊎ (36 < c)
      go true e = inl (ltb-true c 32 e)
      go false e = inr (let l = ltb-false c 32 e in omega arith)

  -- what holds of every length holds of a code's
  by_code : (P : ℕ → Type 0) → (c ≡ 16 → P (13 + w)) → (c ≡ 17 → P (1 + w)) → (c ≡ 18 → P (14 + w)) → (c ≡ 19 → P (2 + w + w + w)) → (c ≡ 20 → P (10 + w + w))
      → (32 ≤ c → c ≤ 36 → P (9 + w)) → (c ≡ 37 → P (10 + w)) → (c ≡ 38 → P 10) → (c ≡ 40 → P (10 + w)) → (c ≡ 41 → P 11) → (48 ≤ c → c ≤ 49 → P (9 + w))
      → ((c < 32) ⊎ (36 < c) → P 9) → P (code_size w c)
  unfolding code_size long_of
  by_code P f16 f17 f18 f19 f20 named f37 f38 f40 f41 terminal other =
      by_pick P _ (λ e. f16 (eqb-true c 16 e)) (λ n16.
      by_pick P _ (λ e. f17 (eqb-true c 17 e)) (λ n17.
      by_pick P _ (λ e. let q = eqb-true c 48 e in terminal (omega arith) (omega arith)) (λ n48.
      by_pick P _ (λ e. let q = eqb-true c 49 e in terminal (omega arith) (omega arith)) (λ n49.
      by_pick P _ (λ e. f18 (eqb-true c 18 e)) (λ n18.
      by_pick P _ (λ e. f19 (eqb-true c 19 e)) (λ n19.
      by_pick P _ (λ e. f20 (eqb-true c 20 e)) (λ n20.
      by_pick P _ (λ e. let q = eqb-true c 32 e in named (omega arith) (omega arith)) (λ n32.
      by_pick P _ (λ e. let q = eqb-true c 33 e in named (omega arith) (omega arith)) (λ n33.
      by_pick P _ (λ e. let q = eqb-true c 34 e in named (omega arith) (omega arith)) (λ n34.
      by_pick P _ (λ e. let q = eqb-true c 35 e in named (omega arith) (omega arith)) (λ n35.
      by_pick P _ (λ e. let q = eqb-true c 36 e in named (omega arith) (omega arith)) (λ n36.
      by_pick P _ (λ e. f37 (eqb-true c 37 e)) (λ n37.
      by_pick P _ (λ e. f38 (eqb-true c 38 e)) (λ n38.
      by_pick P _ (λ e. f40 (eqb-true c 40 e)) (λ n40.
      by_pick P _ (λ e. f41 (eqb-true c 41 e)) (λ n41.
      other (outside (eqb-false c 32 n32) (eqb-false c 33 n33) (eqb-false c 34 n34) (eqb-false c 35 n35) (eqb-false c 36 n36))))))))))))))))))

  -- 20 to 24
  pub size_named : 32 ≤ c → c ≤ 36 → 9 + w ≡ code_size w c
  size_named l h = by_code (λ (z : ℕ). 9 + w ≡ z) (λ e. absurd (omega arith)) (λ e. absurd (omega arith)) (λ e. absurd (omega arith)) (λ e. absurd (omega arith)) (λ e. absurd (omega arith)) (λ _ _. refl) (λ e. absurd (omega arith)) (λ e. absurd (omega arith)) (λ e. absurd (omega arith)) (λ e. absurd (omega arith)) (λ x y. absurd (omega arith)) (λ o. absurd (inside o))
    where
      inside : (c < 32) ⊎ (36 < c) → ⊥
      inside (inl x) = omega arith
      inside (inr x) = omega arith

  -- 30 and 31
  pub size_terminal : 48 ≤ c → c < 50 → 9 + w ≡ code_size w c
  unfolding code_size pick
  size_terminal l h = go (eqb c 48) refl
    where
      go : (b : Bool) → eqb c 48 ≡ b → 9 + w ≡ code_size w c
      go true e = rw (eqb-true c 48 e) refl
      go false e = rw (let n = eqb-false c 48 e in let z : c ≡ 49 = omega arith in z) refl

  pub size_between : 37 ≤ c → c < 48 → (c ≡ 37 → ⊥) → (c ≡ 38 → ⊥) → (c ≡ 40 → ⊥) → (c ≡ 41 → ⊥) → 9 ≡ code_size w c
  size_between l h n37 n38 n40 n41 = by_code (λ (z : ℕ). 9 ≡ z) (λ e. absurd (omega arith)) (λ e. absurd (omega arith)) (λ e. absurd (omega arith)) (λ e. absurd (omega arith)) (λ e. absurd (omega arith)) (λ x y. absurd (omega arith)) (λ e. absurd (n37 e)) (λ e. absurd (n38 e)) (λ e. absurd (n40 e)) (λ e. absurd (n41 e)) (λ x y. absurd (omega arith)) (λ _. refl)

  -- what no item, argument or terminal has
  pub size_long : (l : ℕ) → l ≡ long_of w c → (c ≡ 16 → ⊥) → (c ≡ 17 → ⊥) → (c ≡ 48 → ⊥) → (c ≡ 49 → ⊥) → l ≡ code_size w c
  unfolding code_size pick
  size_long l e n16 n17 n48 n49 = simp (ne_eqb c 16 n16, ne_eqb c 17 n17, ne_eqb c 48 n48, ne_eqb c 49 n49) e

  -- a symbol has a span
  pub size_symbol : 32 ≤ c → 9 ≤ code_size w c
  size_symbol l = by_code (λ (z : ℕ). 9 ≤ z) (λ e. absurd (omega arith)) (λ e. absurd (omega arith)) (λ e. absurd (omega arith)) (λ e. absurd (omega arith)) (λ e. absurd (omega arith)) (λ x y. omega arith) (λ e. omega arith) (λ e. omega arith) (λ e. omega arith) (λ e. omega arith) (λ x y. omega arith) (λ x. omega arith)

pub ruleset coding = (rules, size_16, size_17, size_48, size_49, size_long)
