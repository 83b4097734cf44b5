-- The ways out of `alternative_parts`, `alternative` and `alternatives`. Assumes nothing.
use mathlib.Core.Path.{◌≡◌, refl, sym, ap, ◌∙◌}
use mathlib.Core.Bool.{Bool}
use mathlib.Core.List.{List, [], ◌∷◌}
use denote.Enum.Declared.{tag_of}
use types.Run.{OneOf}
use Rattle.parse_tree.specs.contracts.syntax.Node.{the_type}
use Prim.Native.Nat.{ℕ, ◌+◌, ◌^◌, ◌<◌, ◌≤◌}
use native.Mathlib.Omega.{arith}
use lib.ListN.{length}
use mir.Syntax.{w64}
use mir.Val.{Fits}
use borrow.Author.Rules.{rules}
use Rattle.parse_tree.specs.Plain.Tree.{syms_of}
use Rattle.parse_tree.specs.Working.Places.{alternatives_place, attributes_place, conditions_place}
use Rattle.parse_tree.specs.Plain.Reading.{Reading, then, times}
use Rattle.parse_tree.specs.Working.Expect.{expect_alternative}
use Rattle.parse_tree.specs.Working.Operands.{alternative_of}
use Rattle.parse_tree.specs.Working.Decode.{ask, read_sym, read_attribute, read_condition, read_alternative, alternative_parts}
use Rattle.parse_tree.specs.Plain.ReadTape.{first_of}
use Rattle.parse_tree.specs.declared.syntax.Alternative.{Alternative as AlternativeNode}
use Rattle.parse_tree.specs.declared.refusal.Refusal.{Refusal}
use Rattle.parse_tree.specs.declared.syntax.Node.{Node}
use Rattle.texts.specs.Atoms.{atoms_of}
use Rattle.validate.specs.Steps.{asked_of, step_of}
use Rattle.validate.specs.Quick.{PassedAlternative}
use Rattle.validate.specs.declared.Atoms.{Atoms}
use Rattle.std.specs.Prelude.{Result, Ok, Err}
use Rattle.validate.proofs.CommandKinds.{no_alternative}
use Rattle.validate.proofs.CommandMean.{attributes_alike, conditions-alike}
use Rattle.validate.proofs.CommandCode.{stands, asked_got, asked_refused, step-got, step-refused, refuses_step, then_is, refuses_then, step_then, times_none, times-next, times-stop}

-- ---- the step of one reading behind another
pub step-on : {A B : Type 0} (m : Reading A) (f : A → ℕ → Reading B) (e : ℕ) (y : Result ℕ Refusal) → Ok e ≡ step_of m → ((x : A) → y ≡ step_of (f x e)) → y ≡ step_of (then m f)
step-on m f e y p q = let r = step-got m e p in q r.value ∙ sym (ap step_of (then_is m f r.value e r.is))

pub step-off : {A B : Type 0} (m : Reading A) (f : A → ℕ → Reading B) (z : Refusal) → Err z ≡ step_of m → Err z ≡ step_of (then m f)
step-off m f z q = refuses_step _ z (refuses_then m f z (step-refused m z q))

-- ---- `alternative_parts`: r is the step over the attributes
module _ (four : Bool) (s : List ℕ) (w atoms : ℕ) (a : AlternativeNode) (at n : ℕ) (r : Result ℕ Refusal) (i : r ≡ step_of (times (ask four w s (atoms_of s atoms) attributes_place 1) n at)) (j : n ≡ a.attributes) where
  attributes_are : r ≡ step_of (times (read_attribute four w s (atoms_of s atoms)) a.attributes at)
  attributes_are = i ∙ ap (λ (c : ℕ). step_of (times (ask four w s (atoms_of s atoms) attributes_place 1) c at)) j ∙ sym (attributes_alike four w s (atoms_of s atoms) a.attributes at)

  pub parts_attributes : (z : Refusal) → r ≡ Err z → Err z ≡ step_of (alternative_parts four w s (atoms_of s atoms) a at)
  unfolding alternative_parts
  parts_attributes z u = step-off (times (read_attribute four w s (atoms_of s atoms)) a.attributes at) _ z (sym u ∙ attributes_are)

  -- t is the step over the conditions
  module _ (e k : ℕ) (u : r ≡ Ok e) (t : Result ℕ Refusal) (l : t ≡ step_of (times (ask four w s (atoms_of s atoms) conditions_place 1) k e)) (h : k ≡ a.conditions) where
    conditions-are : t ≡ step_of (times (read_condition four w s (atoms_of s atoms)) a.conditions e)
    conditions-are = l ∙ ap (λ (c : ℕ). step_of (times (ask four w s (atoms_of s atoms) conditions_place 1) c e)) h ∙ sym (conditions-alike four w s (atoms_of s atoms) a.conditions e)

    pub parts_conditions : (z : Refusal) → t ≡ Err z → Err z ≡ step_of (alternative_parts four w s (atoms_of s atoms) a at)
    unfolding alternative_parts
    parts_conditions z v =
        step-on (times (read_attribute four w s (atoms_of s atoms)) a.attributes at) _ e (Err z) (sym u ∙ attributes_are)
        (λ attrs. step-off (times (read_condition four w s (atoms_of s atoms)) a.conditions e) _ z (sym v ∙ conditions-are))

    pub parts_symbols : (d c : ℕ) (y : Result ℕ Refusal) → t ≡ Ok d → y ≡ step_of (times (read_sym four w s (atoms_of s atoms) 64) c d) → c ≡ a.symbols → y ≡ step_of (alternative_parts four w s (atoms_of s atoms) a at)
    unfolding alternative_parts
    parts_symbols d c y v o g =
        step-on (times (read_attribute four w s (atoms_of s atoms)) a.attributes at) _ e y (sym u ∙ attributes_are)
        (λ attrs. step-on (times (read_condition four w s (atoms_of s atoms)) a.conditions e) _ d y (sym v ∙ conditions-are)
        (λ conds. o ∙ ap (λ (x : ℕ). step_of (times (read_sym four w s (atoms_of s atoms) 64) x d)) g
        ∙ sym (step_then (times (read_sym four w s (atoms_of s atoms) 64) a.symbols d) (λ syms. alternative_of (atoms_of s atoms) a attrs (first_of conds) (syms_of syms)))))

pub ruleset alternative_parts_lem = (rules, parts_attributes, parts_conditions, parts_symbols)

-- ---- `alternative`: r is what `command` answered
module _ (four : Bool) (s : List ℕ) (w atoms at : ℕ) (r : Result (Node × ℕ) Refusal) (i : r ≡ asked_of (ask four w s (atoms_of s atoms) alternatives_place 1 at)) where
  pub alternative_refused : (z : Refusal) → r ≡ Err z → Err z ≡ step_of (read_alternative four w s (atoms_of s atoms) at)
  unfolding read_alternative step_of
  alternative_refused z u = refuses_step _ z (refuses_then (ask four w s (atoms_of s atoms) alternatives_place 1 at) _ z (asked_refused (ask four w s (atoms_of s atoms) alternatives_place 1 at) z (sym u ∙ i)))

  module _ (n : Node) (e : ℕ) (u : r ≡ Ok (n, e)) where
    wanted : read_alternative four w s (atoms_of s atoms) at ≡ expect_alternative at (alternative_parts four w s (atoms_of s atoms)) n e
    unfolding read_alternative alternative_parts
    wanted = then_is (ask four w s (atoms_of s atoms) alternatives_place 1 at) _ n e (asked_got (ask four w s (atoms_of s atoms) alternatives_place 1 at) n e (sym u ∙ i))

    pub alternative_other : OneOf (0 ∷ 1 ∷ 2 ∷ 3 ∷ 5 ∷ 6 ∷ 7 ∷ []) (tag_of the_type n) → ⊥
    alternative_other o = no_alternative n o (stands four s w atoms alternatives_place 1 at n e (asked_got (ask four w s (atoms_of s atoms) alternatives_place 1 at) n e (sym u ∙ i))).allowed

    pub alternative_whole : (a : AlternativeNode) (y : Result ℕ Refusal) → n ≡ Node.Alternative a → y ≡ step_of (alternative_parts four w s (atoms_of s atoms) a e) → y ≡ step_of (read_alternative four w s (atoms_of s atoms) at)
    unfolding expect_alternative
    alternative_whole a y v o = o ∙ sym (ap step_of (wanted ∙ ap (λ (x : Node). expect_alternative at (alternative_parts four w s (atoms_of s atoms)) x e) v))

-- a is what the quick look found
module _ (s : List ℕ) (m : Atoms) (at : ℕ) (a : AlternativeNode) (g : PassedAlternative s m at a) where
  pub alternative_fits_lem : (z : ℕ) → z ≡ 14 + m.width.bytes → length s < 2 ^ 64 → Fits w64 (at + z)
  alternative_fits_lem z e l = record { fits = omega (arith, g.room) }

  pub alternative_quick : (y : Result ℕ Refusal) → y ≡ step_of (alternative_parts m.four m.width.bytes s (atoms_of s m.texts.count) a (at + (14 + m.width.bytes)))
      → y ≡ step_of (read_alternative m.four m.width.bytes s (atoms_of s m.texts.count) at)
  unfolding asked_of
  alternative_quick y p =
      let e : ℕ = at + (14 + m.width.bytes) in
      alternative_whole m.four s m.width.bytes m.texts.count at (Ok (Node.Alternative a, e)) (sym (ap asked_of g.asked)) (Node.Alternative a) e refl a y refl p

pub ruleset alternative = (rules, alternative_refused, alternative_other, alternative_whole, alternative_fits_lem, alternative_quick)

-- ---- `alternatives`
module _ (four : Bool) (s : List ℕ) (w atoms k p : ℕ) (x : Result ℕ Refusal) (inv : step_of (times (read_alternative four w s (atoms_of s atoms)) k p) ≡ x) (r : Result ℕ Refusal) (i : r ≡ step_of (read_alternative four w s (atoms_of s atoms) p)) where
  pub alternatives_next : (e j : ℕ) → r ≡ Ok e → k ≡ j + 1 → step_of (times (read_alternative four w s (atoms_of s atoms)) j e) ≡ x
  alternatives_next e j q h = times-next (read_alternative four w s (atoms_of s atoms)) k p x inv e j (sym q ∙ i) h

  pub alternatives_stop : (z : Refusal) → r ≡ Err z → 0 < k → Err z ≡ x
  alternatives_stop z u h = times-stop (read_alternative four w s (atoms_of s atoms)) k p x inv z (sym u ∙ i) h

pub alternatives_none : (four : Bool) (s : List ℕ) (w atoms k p : ℕ) (x : Result ℕ Refusal) → step_of (times (read_alternative four w s (atoms_of s atoms)) k p) ≡ x → k ≤ 0 → Ok p ≡ x
alternatives_none four s w atoms k p x inv h = times_none (read_alternative four w s (atoms_of s atoms)) k p x inv h

pub ruleset alternatives = (rules, alternatives_next, alternatives_stop, alternatives_none)
