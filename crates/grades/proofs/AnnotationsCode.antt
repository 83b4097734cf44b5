-- Looking for the attributes `precedence` and `assoc`: the ways out of the code. Assumes nothing.
use mathlib.Core.Path.{◌≡◌, refl, sym, ap, ◌∙◌}
use mathlib.Core.Bool.{Bool, true, false}
use mathlib.Core.List.{List}
use Prim.Native.Nat.{ℕ, zero, suc, ◌+◌, ◌*◌, ◌^◌, ◌≤◌, ◌<◌}
use native.Mathlib.Omega.{arith}
use native.Mathlib.Nat.{mul_comm, mul-suc, mul-le-mul, mul-le-mul_left, mul-le-mul_right}
use borrow.Author.Rules.{rules}
use borrow.Author.Tests.{eq-eqb, ne_eqb, eqb-true, eqb-false}
use mir.Val.{Fits}
use mir.Syntax.{w64}
use lib.Dec.{eqb}
use lib.ListN.{length, get_or}
use Rattle.std.specs.Prelude.{Option, Some, None, MatchOption, IfSome, is_some, option_map}
use Rattle.octets.specs.Working.Choice.{pick}
use Rattle.octets.specs.Plain.Numbers.{le_at}
use Rattle.parse_tree.specs.declared.syntax.Alternative.{Alternative}
use Rattle.parse_tree.specs.declared.syntax.NonterminalData.{NonterminalData}
use Rattle.parse_tree.specs.Working.Nodes.{alternative_here, nonterminal_here}
use Rattle.grades.specs.declared.Indices.{Indices}
use Rattle.grades.specs.declared.Ids.{Ids}
use Rattle.grades.specs.Skip.{skip_out}
use Rattle.grades.specs.Annotations.{attributes_long, first_with, Finding, Annotates, annotated_at, first_alternative, has_prec_attr, HeadInside, conditions_from, symbols_from, alternative_end}

-- ---- the bytes of attributes
pub long_more : (wd n : ℕ) → attributes_long wd (suc n) ≡ attributes_long wd n + (2 + 3 * wd)
unfolding attributes_long
long_more wd n = mul-suc (2 + 3 * wd) n

pub long_none : (wd : ℕ) → attributes_long wd 0 ≡ 0
unfolding attributes_long
long_none wd = omega arith

-- ---- position
pub no_id : (wd : ℕ) (w : List ℕ) (p n : ℕ) → first_with wd None w p n ≡ None
unfolding first_with pick
no_id wd w p zero = refl
no_id wd w p (suc n) = ap (option_map suc) (no_id wd w (p + (2 + 3 * wd)) n)

pub look_none : (wd : ℕ) (id : Option ℕ) (w : List ℕ) (at n : ℕ) → id ≡ None → Finding wd id w at n None
look_none wd id w at n e = rw e record { index = sym (no_id wd w at n); below = tt }

-- which attribute is the first of an id, as a search of them says
abbrev pub FirstFound : (ℕ → Type 0) → (ℕ → Type 0) → ℕ → Option ℕ → Type 0
FirstFound Yes No n r = MatchOption r ((k : ℕ) → 0 ≤ k → k < n → No k) (λ i. (0 ≤ i) × (i < n) × Yes i × ((k : ℕ) → 0 ≤ k → k < i → No k))

module _ (wd k : ℕ) (w : List ℕ) where
  -- the i-th has the id, has another
  abbrev pub Has : ℕ → ℕ → Type 0
  Has p i = k ≡ le_at wd w (p + (2 + 3 * wd) * i + 1)

  abbrev pub HasNot : ℕ → ℕ → Type 0
  HasNot p i = Has p i → ⊥

  behind : (p i : ℕ) → p + (2 + 3 * wd) + (2 + 3 * wd) * i + 1 ≡ p + (2 + 3 * wd) * suc i + 1
  behind p i = omega (arith, mul-suc (2 + 3 * wd) i)

  first-place : (p : ℕ) → p + (2 + 3 * wd) * 0 + 1 ≡ p + 1
  first-place p = omega arith

  -- the same at a place that is said otherwise
  moved : (x y : ℕ) → x ≡ y → k ≡ le_at wd w x → k ≡ le_at wd w y
  moved x y e h = rw (← e) h

  not_behind : (p n : ℕ) → ((i : ℕ) → 0 ≤ i → i < suc n → HasNot p i) → (i : ℕ) → 0 ≤ i → i < n → HasNot (p + (2 + 3 * wd)) i
  not_behind p n f i _ l h = f (suc i) (omega arith) (omega arith) (moved _ _ (behind p i) h)

  rest_found : (p n : ℕ) (r : Option ℕ) → FirstFound (Has p) (HasNot p) (suc n) r → HasNot p 0
      → (s : Option ℕ) × FirstFound (Has (p + (2 + 3 * wd))) (HasNot (p + (2 + 3 * wd))) n s × (r ≡ option_map suc s)
  rest_found p n None f h = (None, not_behind p n f, refl)
  rest_found p n (Some zero) f h = absurd (h f.2)
  rest_found p n (Some (suc i)) f h = (Some i, (omega arith, omega (arith, f.1), moved _ _ (sym (behind p i)) f.2, not_behind p i f.3), refl)

  now_found : (p n : ℕ) (r : Option ℕ) → FirstFound (Has p) (HasNot p) (suc n) r → Has p 0 → r ≡ Some 0
  now_found p n None f h = absurd (f 0 (omega arith) (omega arith) h)
  now_found p n (Some zero) f h = refl
  now_found p n (Some (suc i)) f h = absurd (f.3 0 (omega arith) (omega arith) h)

  found_first : (p n : ℕ) (r : Option ℕ) → FirstFound (Has p) (HasNot p) n r → r ≡ first_with wd (Some k) w p n
  unfolding first_with pick
  found_first p zero None f = refl
  found_first p zero (Some i) f = absurd (omega (arith, f.1))
  found_first p (suc n) r f = go (found_first (p + (2 + 3 * wd)) n) (eqb k (le_at wd w (p + 1))) refl
    where
      go : ((s : Option ℕ) → FirstFound (Has (p + (2 + 3 * wd))) (HasNot (p + (2 + 3 * wd))) n s → s ≡ first_with wd (Some k) w (p + (2 + 3 * wd)) n)
          → (b : Bool) → eqb k (le_at wd w (p + 1)) ≡ b → r ≡ pick b (Some 0) (option_map suc (first_with wd (Some k) w (p + (2 + 3 * wd)) n))
      go h true z = now_found p n r f (moved _ _ (sym (first-place p)) (eqb-true k (le_at wd w (p + 1)) z))
      go h false z =
          let g = rest_found p n r f (λ e. eqb-false k (le_at wd w (p + 1)) z (moved _ _ (first-place p) e)) in
          g.2 ∙ ap (option_map suc) (h g.0 g.1)

  pub found_is : (p n : ℕ) (id r : Option ℕ) → id ≡ Some k → FirstFound (Has p) (HasNot p) n r → Finding wd id w p n r
  found_is p n id r e f = rw e record { index = found_first p n r f; below = below_is r f }
    where
      below_is : (o : Option ℕ) → FirstFound (Has p) (HasNot p) n o → IfSome o (λ i. i < n)
      below_is None g = tt
      below_is (Some i) g = g.1

-- what is looked at of the i-th of n lies in work
pub look_fits : (wd at n i m : ℕ) → at + attributes_long wd n ≤ m → i < n → at + (2 + 3 * wd) * i + (2 + wd + wd + wd) ≤ m
unfolding attributes_long
look_fits wd at n i m h l = omega (arith, mul-le-mul_left {m = suc i} {n = n} (2 + 3 * wd) (omega arith), mul-suc (2 + 3 * wd) i)

pub ruleset looking = (rules, look_none, look_fits)

-- ---- annotated
pub end_whole : (wd : ℕ) (w : List ℕ) (at n : ℕ) (d : Alternative) → conditions_from wd w at ≤ length w → d ≡ alternative_here wd w at → n ≡ d.attributes
    → at + 14 + wd + attributes_long wd n ≤ length w
unfolding conditions_from attributes_long
end_whole wd w at n d h p q = let z : n ≡ get_or w (at + 9) 0 = cc in rw z (omega (arith, h, mul_comm (get_or w (at + 9) 0) (2 + 3 * wd)))

module _ (wd : ℕ) (ids : Ids) (w : List ℕ) (at n : ℕ) (d : Alternative) (p : d ≡ alternative_here wd w at) (q : n ≡ d.attributes) (f : Indices) (a : Annotates wd ids w (at + 14 + wd) n f) where
  pub annotated-level : is_some f.precedence ≡ true → true ≡ annotated_at wd ids w at
  unfolding annotated_at pick
  annotated-level h = cc (a.precedence.index)

  pub annotated-side : is_some f.precedence ≡ false → (r : Bool) → r ≡ is_some f.assoc → r ≡ annotated_at wd ids w at
  unfolding annotated_at pick
  annotated-side h r e = cc (a.precedence.index, a.assoc.index)

pub ruleset annotating = (rules, end_whole, annotated-level, annotated-side)

-- ---- first_alternative
module _ (wd n : ℕ) (h : wd ≤ 3) (k : n < 256) where
  few : (1 + wd) * n ≤ 4 * n
  few = mul-le-mul_right {m = 1 + wd} {n = 4} n (omega arith)

  pub few_fits : Fits w64 ((1 + wd) * n)
  few_fits = omega (arith, few)

  pub few_behind : (m at : ℕ) → m * 1 < 2 ^ 63 → at + 13 + wd ≤ m → Fits w64 (at + 13 + wd + (1 + wd) * n)
  few_behind m at l r = omega (arith, few)

pub first-is : (wd : ℕ) (w : List ℕ) (at n : ℕ) (d : NonterminalData) → d ≡ nonterminal_here wd w at → n ≡ d.args → at + 13 + wd + (1 + wd) * n ≡ first_alternative wd w at
unfolding first_alternative
first-is wd w at n d p q = cc

pub ruleset placing = (rules, few_fits, few_behind, first-is)

-- ---- has_prec_attr
module _ (wd : ℕ) (w : List ℕ) (at : ℕ) where
  pub has_other : (ids : Ids) → (get_or w at 0 ≡ 16 → ⊥) → false ≡ has_prec_attr wd ids w at
  unfolding has_prec_attr pick
  has_other ids h = cc (ne_eqb (get_or w at 0) 16 h)

  module _ (e : get_or w at 0 ≡ 16) (d : NonterminalData) (y : d ≡ nonterminal_here wd w at) where
    j : d.alternatives ≡ le_at 2 w (at + 11 + wd)
    j = ap (λ (z : NonterminalData). z.alternatives) y

    pub has-none : (ids : Ids) → d.alternatives ≡ 0 → false ≡ has_prec_attr wd ids w at
    unfolding has_prec_attr pick
    has-none ids h = cc (eq-eqb (get_or w at 0) 16 e, eq-eqb (le_at 2 w (at + 11 + wd)) 0 (sym j ∙ h))

    module _ (h : d.alternatives ≡ 0 → ⊥) (a : ℕ) (p : a ≡ first_alternative wd w at) where
      pub has-fits : HeadInside wd w at → conditions_from wd w a ≤ length w
      has-fits g = rw p (g.first e (λ z. h (j ∙ z)))

      pub has_first : (ids : Ids) (r : Bool) → r ≡ annotated_at wd ids w a → r ≡ has_prec_attr wd ids w at
      unfolding has_prec_attr pick
      has_first ids r k = k ∙ cc (p, eq-eqb (get_or w at 0) 16 e, ne_eqb (le_at 2 w (at + 11 + wd)) 0 (λ z. h (j ∙ z)))

pub ruleset heading = (rules, has_other, has-none, has-fits, has_first)

-- ---- products of a count
few_attributes : (n wd : ℕ) → n < 256 → wd ≤ 3 → n * (2 + 3 * wd) ≤ 2805
few_attributes n wd a b = mul-le-mul {n₁ = n} {m₁ = 2 + 3 * wd} {n₂ = 255} {m₂ = 11} (omega arith) (omega arith)

few_conditions : (n wd : ℕ) → n < 256 → wd ≤ 3 → n * (10 + 2 * wd) ≤ 4080
few_conditions n wd a b = mul-le-mul {n₁ = n} {m₁ = 10 + 2 * wd} {n₂ = 255} {m₂ = 16} (omega arith) (omega arith)

pub times-attributes : (n wd : ℕ) → n < 256 → wd ≤ 3 → Fits w64 (n * (2 + 3 * wd))
times-attributes n wd a b = record { fits = omega (arith, few_attributes n wd a b) }

pub times-conditions : (n wd : ℕ) → n < 256 → wd ≤ 3 → Fits w64 (n * (10 + 2 * wd))
times-conditions n wd a b = record { fits = omega (arith, few_conditions n wd a b) }

-- ---- conditions
module _ (w : List ℕ) (wd p : ℕ) (k : wd ≤ 3) (n : ℕ) (h : n < 256) where
  pub sum_attributes : p + 11 ≤ length w → length w * 1 < 2 ^ 63 → Fits w64 (p + (14 + wd) + n * (2 + 3 * wd))
  sum_attributes l x = record { fits = omega (arith, few_attributes n wd h k) }

  pub conditions_near : p + (14 + wd) + n * (2 + 3 * wd) < p + 4096
  conditions_near = omega (arith, few_attributes n wd h k)

pub conditions_are : (w : List ℕ) (wd p n : ℕ) → n ≡ get_or w (p + 9) 0 → p + (14 + wd) + n * (2 + 3 * wd) ≡ conditions_from wd w p
unfolding conditions_from
conditions_are w wd p n z = cc

pub ruleset conditioning = (rules, times-attributes, sum_attributes, conditions_near, conditions_are)

-- ---- symbols
pub sum_conditions : (w : List ℕ) (wd p z m : ℕ) → wd ≤ 3 → p + 11 ≤ length w → z < p + 4096 → m < 256 → length w * 1 < 2 ^ 63 → Fits w64 (z + m * (10 + 2 * wd))
sum_conditions w wd p z m k l near o x = record { fits = omega (arith, few_conditions m wd o k) }

pub symbols_are : (w : List ℕ) (wd p z m : ℕ) → z ≡ conditions_from wd w p → m ≡ get_or w (p + 10) 0 → z + m * (10 + 2 * wd) ≡ symbols_from wd w p
unfolding symbols_from
symbols_are w wd p z m y x = cc

pub ruleset symboling = (rules, times-conditions, sum_conditions, symbols_are)

-- ---- alternative_end
pub end_is : (wd : ℕ) (w : List ℕ) (at e s n r : ℕ) (d : Alternative) → s ≡ symbols_from wd w at → d ≡ alternative_here wd w at → n ≡ d.symbols → r ≡ skip_out wd e w s e n → r ≡ alternative_end wd w at e
unfolding alternative_end
end_is wd w at e s n r d p q i j = cc

pub ruleset ending = (rules, end_is)
