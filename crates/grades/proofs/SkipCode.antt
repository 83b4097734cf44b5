-- Skipping: the ways out of skip. Assumes nothing.
use mathlib.Core.Path.{◌≡◌, refl, sym, ap, ◌∙◌}
use mathlib.Core.List.{List}
use Prim.Native.Nat.{ℕ, zero, suc, ◌+◌, ◌-◌, ◌*◌, ◌^◌, ◌≤◌, ◌<◌}
use native.Mathlib.Omega.{arith}
use borrow.Author.Rules.{rules}
use borrow.Author.Tests.{lt-ltb, le-ltb, le-leb, lt-leb, ne_eqb}
use mir.Val.{Fits}
use mir.Syntax.{w64}
use lib.ListN.{length, get_or}
use Rattle.octets.specs.Working.Choice.{pick}
use Rattle.parse_tree.specs.Working.Nodes.{long_of}
use Rattle.parse_tree.specs.Working.Nested.{inside_at}
use Rattle.grades.specs.Skip.{skip_out}

-- ---- skip
-- with `fuel` commands to come at the most, the rest is what the whole is
pub record Skipping (wd e at n : ℕ) (w : List ℕ) (p k : ℕ) : Type 0 where
  pub narrow : 2 ≤ wd
  pub wide : wd ≤ 3
  pub inside : e + 16 ≤ length w
  pub fuel : ℕ
  pub enough : e ≤ fuel + p
  pub rest : skip_out wd fuel w p e k ≡ skip_out wd e w at e n

pub skip-start : (wd e at n : ℕ) (w : List ℕ) → 2 ≤ wd → wd ≤ 3 → e + 16 ≤ length w → Skipping wd e at n w at n
skip-start wd e at n w h k i = record { narrow = h; wide = k; inside = i; fuel = e; enough = omega arith; rest = refl }

skip-end : (wd f : ℕ) (w : List ℕ) (p e k : ℕ) → e ≤ p → skip_out wd f w p e k ≡ p
unfolding skip_out pick
skip-end wd zero w p e k h = refl
skip-end wd (suc f) w p e k h = cc (le-leb e p h)

module _ (wd e at n : ℕ) (w : List ℕ) (p k : ℕ) (g : Skipping wd e at n w p k) where
  pub skip-done : e ≤ p → p ≡ skip_out wd e w at e n
  skip-done h = sym (skip-end wd g.fuel w p e k h) ∙ g.rest

  module _ (h : p < e) where
    abbrev left : ℕ
    left = g.fuel - 1

    opened : skip_out wd g.fuel w p e k ≡ skip_out wd (suc left) w p e k
    opened = let z : g.fuel ≡ suc left = omega (arith, g.enough) in ap (λ (f : ℕ). skip_out wd f w p e k) z

    none : k ≡ 0 → skip_out wd (suc left) w p e k ≡ p
    unfolding skip_out pick
    none z = cc (lt-leb e p h)

    pub skip-none : k ≡ 0 → p ≡ skip_out wd e w at e n
    skip-none z = sym (none z) ∙ sym opened ∙ g.rest

    many : (k ≡ 0 → ⊥) → e - p < k → skip_out wd (suc left) w p e k ≡ p
    unfolding skip_out pick
    many z l = cc (lt-leb e p h, ne_eqb k 0 z, lt-ltb (e - p) k l)

    pub skip-many : (k ≡ 0 → ⊥) → e - p < k → p ≡ skip_out wd e w at e n
    skip-many z l = sym (many z l) ∙ sym opened ∙ g.rest

    module _ (z : k ≡ 0 → ⊥) (l : k ≤ e - p) (i : ℕ) (j : i ≡ inside_at wd w p) where
      pub skip-fits : length w * 1 < 2 ^ 63 → i < 65536 → Fits w64 (k - 1 + i)
      skip-fits x y = omega (arith, g.inside)

      next : (c d : ℕ) → c ≡ get_or w p 0 → d ≡ long_of wd c → skip_out wd (suc left) w p e k ≡ skip_out wd left w (p + d) e (k - 1 + i)
      unfolding skip_out pick
      next c d x y = cc (lt-leb e p h, ne_eqb k 0 z, le-ltb (e - p) k l)

      pub skip-next : (c d : ℕ) → c ≡ get_or w p 0 → d ≡ long_of wd c → 0 < d → Skipping wd e at n w (p + d) (k - 1 + i)
      skip-next c d x y o =
          record { narrow = g.narrow; wide = g.wide; inside = g.inside; fuel = left; enough = omega (arith, g.enough); rest = sym (next c d x y) ∙ sym opened ∙ g.rest }

pub ruleset skipping = (rules, skip-start, skip-done, skip-none, skip-many, skip-fits, skip-next)
