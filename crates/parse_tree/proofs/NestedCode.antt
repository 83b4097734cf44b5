-- How many symbols stand straight inside one: the ways out of inside and inside_at. Assumes nothing.
use mathlib.Core.Path.{◌≡◌, ap, ◌∙◌}
use mathlib.Core.List.{List}
use Prim.Native.Nat.{ℕ, zero, suc, ◌+◌, ◌-◌, ◌≤◌, ◌<◌}
use native.Mathlib.Omega.{arith}
use borrow.Author.Rules.{rules}
use borrow.Author.Tests.{lt-ltb, le-ltb, ne_eqb}
use mir.Val.{Fits}
use mir.Syntax.{w8}
use lib.Dec.{eqb, ltb}
use lib.ListN.{get_or}
use Rattle.octets.specs.Working.Choice.{pick}
use Rattle.octets.specs.Plain.Numbers.{le_at}
use Rattle.octets.proofs.ChoiceLaws.{by_pick}
use Rattle.octets.proofs.LiesLaws.{le_at-lt}
use Rattle.parse_tree.specs.Working.Nodes.{long_of}
use Rattle.parse_tree.specs.Working.Nested.{inside_by, inside_at}

-- ---- inside one of a code
module _ (wd : ℕ) (w : List ℕ) (at c : ℕ) where
  module _ (n : ℕ) (room : at + long_of wd c ≤ n) where
    pub macro_read : c ≡ 37 → at + 9 + wd < n
    unfolding long_of pick
    macro_read h = let z : long_of wd c ≡ 10 + wd = cc in omega (arith, z)

    pub group_read : c ≡ 41 → at + 9 + 2 ≤ n
    unfolding long_of pick
    group_read h = let z : long_of wd c ≡ 11 = cc in omega (arith, z)

  pub inside-macro : (x r : ℕ) → c ≡ 37 → x ≡ get_or w (at + 9 + wd) 0 → r ≡ x → r ≡ inside_by wd w at c
  unfolding inside_by pick
  inside-macro x r h j k = cc

  pub inside-group : (x r : ℕ) → c ≡ 41 → x ≡ le_at 2 w (at + 9) → r ≡ x → r ≡ inside_by wd w at c
  unfolding inside_by pick
  inside-group x r h j k = cc

  inside-named : (c ≡ 37 → ⊥) → c < 38 → 0 ≡ inside_by wd w at c
  unfolding inside_by pick
  inside-named n h = cc (ne_eqb c 37 n, ne_eqb c 41 (λ e. absurd (omega arith)), lt-ltb c 38 h)

  pub inside-front : c ≤ 36 → 0 ≡ inside_by wd w at c
  inside-front h = inside-named (λ e. absurd (omega arith)) (omega arith)

  module _ (n37 : c ≡ 37 → ⊥) (n41 : c ≡ 41 → ⊥) where
    pub inside-bare : 38 ≤ c → 40 < c → 0 ≡ inside_by wd w at c
    unfolding inside_by pick
    inside-bare h k = cc (ne_eqb c 37 n37, ne_eqb c 41 n41, le-ltb c 38 h, lt-ltb 40 c k)

    pub inside-around : 38 ≤ c → c ≤ 40 → 1 ≡ inside_by wd w at c
    unfolding inside_by pick
    inside-around h k = cc (ne_eqb c 37 n37, ne_eqb c 41 n41, le-ltb c 38 h, le-ltb 40 c k)

pub ruleset insiding = (rules, macro_read, group_read, inside-macro, inside-group, inside-front, inside-bare, inside-around)

-- ---- inside the one at a place
module _ (wd : ℕ) (w : List ℕ) (at c : ℕ) (i : c ≡ get_or w at 0) where
  is : (r : ℕ) → r ≡ inside_by wd w at c → r ≡ inside_at wd w at
  unfolding inside_at
  is r h = h ∙ ap (inside_by wd w at) i

  pub at-held : (r : ℕ) → r ≡ inside_by wd w at c → r ≡ inside_at wd w at
  at-held r h = is r h

  pub at-low : c < 37 → 0 ≡ inside_at wd w at
  at-low h = is 0 (inside-named wd w at c (λ e. absurd (omega arith)) (omega arith))

  pub at-high : 37 ≤ c → 41 < c → 0 ≡ inside_at wd w at
  at-high k h = is 0 (inside-bare wd w at c (λ e. absurd (omega arith)) (λ e. absurd (omega arith)) (omega arith) (omega arith))

-- commands that hold something are short
held_long : (wd i : ℕ) → 2 ≤ wd → i < 5 → long_of wd (37 + i) ≤ 10 + wd
unfolding long_of pick
held_long wd zero h o = omega arith
held_long wd (suc zero) h o = omega arith
held_long wd (suc (suc zero)) h o = omega arith
held_long wd (suc (suc (suc zero))) h o = omega arith
held_long wd (suc (suc (suc (suc zero)))) h o = omega (arith, h)
held_long wd (suc (suc (suc (suc (suc i))))) h o = absurd (omega arith)

pub held_room : (wd at c n : ℕ) → 2 ≤ wd → at + (10 + wd) ≤ n → 37 ≤ c → c ≤ 41 → at + long_of wd c ≤ n
held_room wd at c n h room l k =
    let z : 37 + (c - 37) ≡ c = omega arith in
    omega (arith, held_long wd (c - 37) h (omega arith), ap (long_of wd) z)

-- a byte or two say how many they are
pub held_small : (wd : ℕ) (w : List ℕ) (at c r : ℕ) → ((i : ℕ) → Fits w8 (get_or w i 0)) → r ≡ inside_by wd w at c → r < 65536
unfolding inside_by
held_small wd w at c r b e = rw e (by_pick (λ k. k < 65536) (eqb c 37) (λ h. omega (arith, (b (at + 9 + wd)).fits))
    (λ h. by_pick (λ k. k < 65536) (eqb c 41) (λ i. omega (arith, le_at-lt 2 w (at + 9) (λ i. (b i).fits)))
    (λ i. by_pick (λ k. k < 65536) (ltb c 38) (λ j. omega arith) (λ j. by_pick (λ k. k < 65536) (ltb 40 c) (λ l. omega arith) (λ l. omega arith)))))

pub ruleset at_inside = (rules, held_room, held_small, at-held, at-low, at-high)
