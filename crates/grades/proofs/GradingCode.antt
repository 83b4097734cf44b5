-- Reading level and side: the ways out of the code. Assumes nothing.
use mathlib.Core.Path.{◌≡◌, refl, ap, ◌∙◌}
use mathlib.Core.List.{List, []}
use Prim.Native.Nat.{ℕ, suc, ◌+◌, ◌*◌, ◌^◌, ◌≤◌, ◌<◌}
use native.Mathlib.Omega.{arith}
use native.Mathlib.Nat.{mul-le-mul_right, mul-le-mul_left}
use borrow.Author.Rules.{rules}
use borrow.Author.Tests.{ne_eqb}
use mir.Val.{Fits}
use mir.Syntax.{w64}
use lib.ListN.{get_or}
use Rattle.std.specs.Prelude.{Option, Some, None, IfSome, Result, Ok, Err}
use Rattle.std.specs.Option.{ok_or}
use Rattle.octets.specs.Working.Choice.{pick}
use Rattle.parse_tree.specs.Plain.Tree.{Text}
use Rattle.parse_tree.specs.declared.refusal.Question.{Question}
use Rattle.parse_tree.specs.declared.syntax.Alternative.{Alternative}
use Rattle.parse_tree.specs.declared.syntax.Attribute.{Attribute}
use Rattle.parse_tree.specs.Working.Nodes.{alternative_here, attribute_here}
use Rattle.texts.specs.declared.Map.{Map}
use Rattle.texts.specs.Table.{texts}
use Rattle.grades.specs.declared.Assoc.{Assoc}
use Rattle.grades.specs.declared.Graded.{Graded}
use Rattle.grades.specs.declared.Ids.{Ids}
use Rattle.grades.specs.declared.Indices.{Indices}
use Rattle.grades.specs.Annotations.{attributes_long, Annotates, value_text}
use Rattle.grades.specs.Grade.{level_said, assoc_said}
use Rattle.grades.specs.Grading.{graded_as, side_said, sided_at, level_then, graded_by, graded_at}
use Rattle.grades.proofs.AnnotationsCode.{long_more, end_whole}

-- ---- value
module _ (wd : ℕ) (s w : List ℕ) (m : Map) (at : ℕ) (d : Attribute) (y : d ≡ attribute_here wd w at) where
  is : d.kind ≡ get_or w (at + 1 + wd) 0
  is = ap (λ (z : Attribute). z.kind) y

  pub value_none : d.kind ≡ 0 → [] ≡ value_text wd (texts s w m) w at
  unfolding value_text pick
  value_none h = cc is

  pub value_some : (d.kind ≡ 0 → ⊥) → (k : ℕ) → k ≡ d.value.0 → (t : List ℕ) → t ≡ get_or (texts s w m) k [] → t ≡ value_text wd (texts s w m) w at
  unfolding value_text pick
  value_some h k q t e = cc (ne_eqb (get_or w (at + 1 + wd) 0) 0 (λ z. h (is ∙ z)), q ∙ ap (λ (z : Attribute). z.value.0) y)

pub ruleset valuing = (rules, value_none, value_some)

-- ---- nth_value
module _ (wd n j : ℕ) (l : j < n) where
  at_long : (2 + 3 * wd) * j ≡ attributes_long wd j
  unfolding attributes_long
  at_long = refl

  few : wd ≤ 3 → (2 + 3 * wd) * j ≤ 11 * j
  few h = mul-le-mul_right {m = 2 + 3 * wd} {n = 11} j (omega arith)

  below : attributes_long wd j + (2 + 3 * wd) ≤ attributes_long wd n
  unfolding attributes_long
  below = omega (arith, mul-le-mul_left {m = suc j} {n = n} (2 + 3 * wd) (omega arith), long_more wd j)

  pub one_fits : wd ≤ 3 → n < 256 → Fits w64 ((2 + 3 * wd) * j)
  one_fits h k = omega (arith, few h)

  pub one_behind : (m at : ℕ) → m * 1 < 2 ^ 63 → at + attributes_long wd n ≤ m → Fits w64 (at + (2 + 3 * wd) * j)
  one_behind m at h k = omega (arith, below, at_long)

  pub one_inside : (m at : ℕ) → at + attributes_long wd n ≤ m → at + (2 + 3 * wd) * j + (2 + 3 * wd) ≤ m
  one_inside m at h = omega (arith, below, at_long)

  pub one_is : (ts : List Text) (w : List ℕ) (at : ℕ) (t : List ℕ) → t ≡ value_text wd ts w (at + (2 + 3 * wd) * j) → t ≡ value_text wd ts w (at + attributes_long wd j)
  one_is ts w at t h = rw (← at_long) h

pub ruleset choosing = (rules, one_fits, one_behind, one_inside, one_is)

-- ---- sided
-- what was said, or the question
module _ (level : ℕ) (y : Result Assoc Question) where
  side_bad : (x : Option Assoc) (q : Question) → y ≡ ok_or x Question.Side → y ≡ Err q → Err q ≡ side_said level x
  unfolding side_said
  side_bad None q v z = cc (v, z)
  side_bad (Some s) q v z = cc (v, z)

  side_is : (x : Option Assoc) (s : Assoc) → y ≡ ok_or x Question.Side → y ≡ Ok s → graded_as level s ≡ side_said level x
  unfolding side_said
  side_is None s v z = cc (v, z)
  side_is (Some t) s v z = cc (v, z)

module _ (f : ℕ → Assoc → Result Graded Question) (y : Result ℕ Question) where
  level_bad : (x : Option ℕ) (q : Question) → y ≡ ok_or x Question.Level → y ≡ Err q → Err q ≡ level_then f x
  unfolding level_then
  level_bad None q v z = cc (v, z)
  level_bad (Some s) q v z = cc (v, z)

  level_is : (x : Option ℕ) (l : ℕ) → y ≡ ok_or x Question.Level → y ≡ Ok l → f l Assoc.FullyAssoc ≡ level_then f x
  unfolding level_then
  level_is None l v z = cc (v, z)
  level_is (Some t) l v z = cc (v, z)

pub index_below : (j : Option ℕ) (k n : ℕ) → IfSome j (λ i. i < n) → j ≡ Some k → k < n
index_below j k n h e = rw e at h

module _ (wd : ℕ) (ts : List Text) (w : List ℕ) (at : ℕ) (j : Option ℕ) (g : Graded) where
  pub sided_same : j ≡ None → Ok g ≡ sided_at wd ts w at j g.level g.side
  unfolding sided_at
  sided_same h = cc

  module _ (k : ℕ) (h : j ≡ Some k) (t : List ℕ) (i : t ≡ value_text wd ts w (at + attributes_long wd k)) (x : Option Assoc) (e : x ≡ assoc_said t) where
    module _ (y : Result Assoc Question) (v : y ≡ ok_or x Question.Side) where
      pub sided_bad : (q : Question) → y ≡ Err q → Err q ≡ sided_at wd ts w at j g.level g.side
      unfolding sided_at side_said
      sided_bad q z = cc (side_bad g.level y x q v z)

      pub sided_is : (s : Assoc) → y ≡ Ok s → graded_as g.level s ≡ sided_at wd ts w at j g.level g.side
      unfolding sided_at side_said
      sided_is s z = cc (side_is g.level y x s v z)

pub ruleset siding = (rules, index_below, sided_same, sided_bad, sided_is)

-- ---- graded
pub assoc_below : (wd : ℕ) (ids : Ids) (w : List ℕ) (at n : ℕ) (f : Indices) → Annotates wd ids w at n f → IfSome f.assoc (λ i. i < n)
assoc_below wd ids w at n f a = a.assoc.below

module _ (wd : ℕ) (ids : Ids) (ts : List Text) (w : List ℕ) (at level : ℕ) (side : Assoc) (n : ℕ) (d : Alternative) (p : d ≡ alternative_here wd w at) (q : n ≡ d.attributes) (f : Indices)
    (a : Annotates wd ids w (at + 14 + wd) n f) where
  pub level_below : (i : ℕ) → f.precedence ≡ Some i → i < n
  level_below i e = index_below f.precedence i n a.precedence.below e

  opened : graded_at wd ids ts w at level side ≡ graded_by wd ts w (at + 14 + wd) f.precedence f.assoc level side
  unfolding graded_at
  opened = cc (a.precedence.index, a.assoc.index)

  pub graded-same : f.precedence ≡ None → (r : Result Graded Question) → r ≡ sided_at wd ts w (at + 14 + wd) f.assoc level side → r ≡ graded_at wd ids ts w at level side
  unfolding graded_by
  graded-same h r s = cc opened

  module _ (j : ℕ) (h : f.precedence ≡ Some j) (t : List ℕ) (i : t ≡ value_text wd ts w (at + 14 + wd + attributes_long wd j)) (l : Option ℕ) (e : l ≡ level_said t) where
    module _ (y : Result ℕ Question) (u : y ≡ ok_or l Question.Level) where
      pub graded-bad : (q : Question) → y ≡ Err q → Err q ≡ graded_at wd ids ts w at level side
      unfolding graded_by level_then
      graded-bad q z = cc (opened, level_bad (sided_at wd ts w (at + 14 + wd) f.assoc) y l q u z)

      pub graded-is : (v : ℕ) → y ≡ Ok v → (r : Result Graded Question) → r ≡ sided_at wd ts w (at + 14 + wd) f.assoc v Assoc.FullyAssoc → r ≡ graded_at wd ids ts w at level side
      unfolding graded_by level_then
      graded-is v z r s = cc (opened, level_is (sided_at wd ts w (at + 14 + wd) f.assoc) y l v u z)

pub ruleset grading = (rules, end_whole, assoc_below, level_below, graded-same, graded-bad, graded-is)
