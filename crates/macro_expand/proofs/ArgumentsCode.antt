-- Laws of the code that looks up arguments and judges conditions: the ways out. Assumes nothing.
use mathlib.Core.Path.{◌≡◌, refl, sym, ap, ◌∙◌}
use mathlib.Core.Bool.{Bool, true, false, beq}
use mathlib.Core.List.{List}
use Prim.Native.Nat.{ℕ, suc, ◌+◌, ◌-◌, ◌≤◌, ◌<◌}
use native.Mathlib.Omega.{arith}
use native.Mathlib.Nat.{mul-suc}
use borrow.Author.Rules.{rules}
use borrow.Author.Tests.{le-leb, lt-leb, eq-eqb, ne_eqb}
use lib.Dec.{eqb}
use lib.ListN.{length, get_or}
use Rattle.octets.specs.Working.Choice.{pick}
use Rattle.octets.specs.Plain.Numbers.{le_at}
use Rattle.std.specs.Prelude.{Option, Some, None}
use Rattle.parse_tree.specs.Working.Nodes.{alternative_here}
use Rattle.parse_tree.specs.declared.syntax.Alternative.{Alternative}
use Rattle.grades.specs.Skip.{skip_out}
use Rattle.grades.specs.Annotations.{conditions_from, alternative_end}
use Rattle.expander.specs.declared.Ground.{Ground}
use Rattle.macro_expand.specs.declared.arguments.Call.{Call}
use Rattle.macro_expand.specs.declared.arguments.NotLiteral.{NotLiteral}
use Rattle.std.specs.Prelude.{Result, Ok, Err, ok_or}
use mir.Syntax.{w64}
use mir.Val.{Fits, bool_byte}
use Rattle.macro_expand.specs.Arguments.{parameters_long, argument_in, ReadableCall, equal_by, argument_for, judged_by, judged_at, holds_at, hold_from}

-- ---- the bytes of parameters
pub long_more : (wd n : ℕ) → parameters_long wd (suc n) ≡ parameters_long wd n + (1 + wd)
unfolding parameters_long
long_more wd n = mul-suc (1 + wd) n

pub long_none : (wd : ℕ) → parameters_long wd 0 ≡ 0
unfolding parameters_long
long_none wd = omega arith

-- ---- argument: i parameters are to come, of m from a₀ on
pub record Looking (g : Ground) (w : List ℕ) (k size m a₀ p₀ i a p : ℕ) : Type 0 where
  pub narrow : 2 ≤ g.width.bytes
  pub wide : g.width.bytes ≤ 3
  pub items : g.end + 16 ≤ length w
  pub long : size ≡ 1 + g.width.bytes
  pub room : a + parameters_long g.width.bytes i ≤ length w
  pub rest : argument_in g.width.bytes g.end w k i a p ≡ argument_in g.width.bytes g.end w k m a₀ p₀

pub look_start : (g : Ground) (c : Call) (w : List ℕ) (k : ℕ) → ReadableCall g c w → Looking g w k (1 + g.width.bytes) c.many c.params c.args c.many c.params c.args
look_start g c w k r = record { narrow = r.narrow; wide = r.wide; items = r.items; long = refl; room = r.parameters; rest = refl }

module _ (g : Ground) (c : Call) (w : List ℕ) (k size i a p : ℕ) (l : Looking g w k size c.many c.params c.args i a p) where
  whole : argument_in g.width.bytes g.end w k i a p ≡ argument_for g c w k
  unfolding argument_for
  whole = l.rest

  pub look_done : i ≤ 0 → None ≡ argument_for g c w k
  unfolding argument_in
  look_done h = let z : i ≡ 0 = omega arith in sym (ap (λ (j : ℕ). argument_in g.width.bytes g.end w k j a p) z) ∙ whole

  pub look_found : 0 < i → (v : ℕ) → v ≡ le_at g.width.bytes w (a + 1) → k ≡ v → Some p ≡ argument_for g c w k
  unfolding argument_in pick
  look_found h v r e =
      let z : i ≡ suc (i - 1) = omega arith in
      let o : argument_in g.width.bytes g.end w k (suc (i - 1)) a p ≡ argument_for g c w k = ap (λ (j : ℕ). argument_in g.width.bytes g.end w k j a p) (sym z) ∙ whole in
      cc (eq-eqb k (le_at g.width.bytes w (a + 1)) (e ∙ r), o)

module _ (g : Ground) (w : List ℕ) (k size m a₀ p₀ i a p : ℕ) (l : Looking g w k size m a₀ p₀ i a p) where
  pub look_items : g.end + 16 ≤ length w
  look_items = l.items

  module _ (h : 0 < i) where
    abbrev next : ℕ
    next = i - 1

    one : i ≡ suc next
    one = omega arith

    long_next : parameters_long g.width.bytes i ≡ parameters_long g.width.bytes next + (1 + g.width.bytes)
    long_next = ap (parameters_long g.width.bytes) one ∙ long_more g.width.bytes next

    pub look_fits : a + 1 + g.width.bytes ≤ length w
    look_fits = omega (arith, long_next, l.room)

    opened : argument_in g.width.bytes g.end w k (suc next) a p ≡ argument_in g.width.bytes g.end w k m a₀ p₀
    opened = ap (λ (j : ℕ). argument_in g.width.bytes g.end w k j a p) (sym one) ∙ l.rest

    pub look_next : (v : ℕ) → v ≡ le_at g.width.bytes w (a + 1) → (k ≡ v → ⊥) → (q : ℕ) → q ≡ skip_out g.width.bytes g.end w p g.end 1 → Looking g w k size m a₀ p₀ (i - 1) (a + size) q
    unfolding argument_in pick
    look_next v r e q s =
        let b : a + size ≡ a + (1 + g.width.bytes) = ap (λ (j : ℕ). a + j) l.long in
        record {
          narrow = l.narrow;
          wide = l.wide;
          items = l.items;
          long = l.long;
          room = omega (arith, long_next, l.room, l.long);
          rest = cc (ne_eqb k (le_at g.width.bytes w (a + 1)) (λ z. e (z ∙ sym r)), opened);
        }

pub ruleset looking = (rules, look_start, look_items, look_done, look_fits, look_found, look_next)

-- ---- is_equal
same_or_not : (a b : Bool) → beq a b ≡ pick a b (pick b false true)
unfolding pick
same_or_not true true = refl
same_or_not true false = refl
same_or_not false true = refl
same_or_not false false = refl

pub equal_done : (wd : ℕ) (w : List ℕ) (p at x y : ℕ) → x ≡ le_at wd w (p + 9) → y ≡ le_at wd w (at + 10 + wd) → beq (eqb x y) (eqb (get_or w (at + 9 + wd) 0) 0) ≡ equal_by wd w p at
unfolding equal_by
equal_done wd w p at x y a b = rw (a, b) (same_or_not (eqb (le_at wd w (p + 9)) (le_at wd w (at + 10 + wd))) (eqb (get_or w (at + 9 + wd) 0) 0))

pub ruleset equalling = (rules, equal_done)

-- ---- evaluate_cond
module _ (g : Ground) (c : Call) (w : List ℕ) (at : ℕ) where
  pub judge_behind : c.end ≤ at → None ≡ judged_at g c w at
  unfolding judged_at pick
  judge_behind h = cc (le-leb c.end at h)

  module _ (h : at < c.end) (k : ℕ) (i : k ≡ le_at g.width.bytes w (at + 9)) (f : Option ℕ) (j : f ≡ argument_for g c w k) where
    here : judged_at g c w at ≡ judged_by g w at f
    unfolding judged_at pick
    here = cc (lt-leb c.end at h)

    pub judge_none : f ≡ None → None ≡ judged_at g c w at
    unfolding judged_by
    judge_none e = cc here

    module _ (p : ℕ) (e : f ≡ Some p) where
      pub judge_past : g.end ≤ p → None ≡ judged_at g c w at
      unfolding judged_by pick
      judge_past l = cc (here, le-leb g.end p l)

      module _ (l : p < g.end) where
        pub judge_is : get_or w p 0 ≡ 34 → (b : Bool) → b ≡ equal_by g.width.bytes w p at → Some b ≡ judged_at g c w at
        unfolding judged_by pick
        judge_is z b o = cc (here, lt-leb g.end p l, eq-eqb (get_or w p 0) 34 z)

        pub judge_other : (get_or w p 0 ≡ 34 → ⊥) → None ≡ judged_at g c w at
        unfolding judged_by pick
        judge_other z = cc (here, lt-leb g.end p l, ne_eqb (get_or w p 0) 34 z)

pub ruleset judging = (rules, judge_behind, judge_none, judge_past, judge_is, judge_other)

-- ---- holds
module _ (g : Ground) (c : Call) (w : List ℕ) (p : ℕ) where
  pub holds_plain : (d : Alternative) → d ≡ alternative_here g.width.bytes w p → d.conditions ≡ 0 → Ok true ≡ holds_at g c w p
  unfolding holds_at pick
  holds_plain d i z = let e : get_or w (p + 10) 0 ≡ 0 = sym (ap (λ (x : Alternative). x.conditions) i) ∙ z in cc (eq-eqb (get_or w (p + 10) 0) 0 e)

  pub holds_asked : (d : Alternative) → d ≡ alternative_here g.width.bytes w p → (d.conditions ≡ 0 → ⊥) → (q : ℕ) → q ≡ conditions_from g.width.bytes w p → (o : Option Bool) → o ≡ judged_at g c w q → (r : Result Bool NotLiteral) → r ≡ ok_or o (record { at = q }) → r ≡ holds_at g c w p
  unfolding holds_at pick
  holds_asked d i n q j o k r z = let e : get_or w (p + 10) 0 ≡ 0 → ⊥ = λ t. n (ap (λ (x : Alternative). x.conditions) i ∙ t) in go e o k z
    where
      go : (get_or w (p + 10) 0 ≡ 0 → ⊥) → (o : Option Bool) → o ≡ judged_at g c w q → r ≡ ok_or o (record { at = q }) → r ≡ holds_at g c w p
      go e None k z = cc (ne_eqb (get_or w (p + 10) 0) 0 e)
      go e (Some b) k z = cc (ne_eqb (get_or w (p + 10) 0) 0 e)

pub ruleset asking = (rules, holds_plain, holds_asked)

-- ---- holding: i alternatives are to come, and k hold so far
pub record Holds (g : Ground) (c : Call) (w : List ℕ) (n at i p k : ℕ) : Type 0 where
  pub readable : ReadableCall g c w
  pub few : k + i ≤ n
  pub rest : hold_from g c w i p k ≡ hold_from g c w n at 0

pub hold_start : (g : Ground) (c : Call) (w : List ℕ) (n at : ℕ) → ReadableCall g c w → Holds g c w n at n at 0
hold_start g c w n at r = record { readable = r; few = omega arith; rest = refl }

module _ (g : Ground) (c : Call) (w : List ℕ) (n at i p k : ℕ) (l : Holds g c w n at i p k) where
  pub hold_readable : ReadableCall g c w
  hold_readable = l.readable

  pub hold_definition : c.end + 16 ≤ length w
  hold_definition = l.readable.definition

  pub hold_done : i ≤ 0 → Ok k ≡ hold_from g c w n at 0
  unfolding hold_from
  hold_done h = let z : i ≡ 0 = omega arith in sym (ap (λ (j : ℕ). hold_from g c w j p k) z) ∙ l.rest

  module _ (h : 0 < i) where
    turned : hold_from g c w (suc (i - 1)) p k ≡ hold_from g c w n at 0
    turned = let z : suc (i - 1) ≡ i = omega arith in ap (λ (j : ℕ). hold_from g c w j p k) z ∙ l.rest

    pub hold_past : c.end ≤ p → Ok k ≡ hold_from g c w n at 0
    unfolding hold_from pick
    hold_past e = cc (le-leb c.end p e, turned)

    module _ (b : p < c.end) (j : Result Bool NotLiteral) (d : j ≡ holds_at g c w p) where
      pub hold_room : p + 11 ≤ length w
      hold_room = omega (arith, l.readable.definition)

      pub hold_refused : (e : NotLiteral) → j ≡ Err e → Err e ≡ hold_from g c w n at 0
      unfolding hold_from pick
      hold_refused e z = cc (lt-leb c.end p b, turned)

      pub hold_fits : (t : Bool) (y : ℕ) → y ≡ bool_byte t → n < 65536 → Fits w64 (k + y)
      hold_fits true y z m = record { fits = omega (arith, l.few) }
      hold_fits false y z m = record { fits = omega (arith, l.few) }

      pub hold_next : (t : Bool) → j ≡ Ok t → (q : ℕ) → q ≡ alternative_end g.width.bytes w p c.end → (y : ℕ) → y ≡ bool_byte t → Holds g c w n at (i - 1) q (k + y)
      unfolding hold_from pick
      hold_next true e q z y u = let v : k + y ≡ k + 1 = omega (arith, u) in record { readable = l.readable; few = omega (arith, l.few); rest = cc (v, lt-leb c.end p b, turned) }
      hold_next false e q z y u = let v : k + y ≡ k = omega (arith, u) in record { readable = l.readable; few = omega (arith, l.few); rest = cc (v, lt-leb c.end p b, turned) }

pub ruleset upholding = (rules, hold_start, hold_readable, hold_definition, hold_done, hold_past, hold_room, hold_refused, hold_fits, hold_next)
