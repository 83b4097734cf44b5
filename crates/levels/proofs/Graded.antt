-- Graded alternatives lie within the limits of those that they come from, and so do those of one level. Assumes nothing.
use mathlib.Core.Bool.{Bool, true, false, cond}
use mathlib.Core.List.{List, [], ◌∷◌}
use Prim.Native.Nat.{ℕ, suc, ◌≤◌}
use native.Mathlib.Omega.{arith}
use lib.Dec.{eqb}
use lib.ListN.{length}
use Rattle.octets.specs.Plain.Runs.{same_as}
use Rattle.parse_tree.specs.Plain.Tree.{Text, Attribute, Alternative, Nonterminal}
use Rattle.parse_tree.specs.Working.Within.{Each, AttributeWithin, AlternativeWithin, NonterminalWithin}
use Rattle.passes.specs.Outcome.{with_attributes}
use Rattle.passes.specs.Grades.{Side, all, precedence, assoc, value_of, without_first, Levelled, level_of, with_levels, Graded, side_of, with_sides, graded}
use Rattle.passes.specs.Levels.{of_level}

without_few : (id : Text) (xs : List Attribute) → length (without_first id xs) ≤ length xs
without_few id [] = omega arith
without_few id (a ∷ xs) = go (same_as id a.id) (without_few id xs)
  where
    go : (b : Bool) → length (without_first id xs) ≤ length xs → length (cond b xs (a ∷ without_first id xs)) ≤ suc (length xs)
    go true h = omega arith
    go false h = omega arith

without_each : (P : Attribute → Type 0) (id : Text) (xs : List Attribute) → Each P xs → Each P (without_first id xs)
without_each P id [] h = tt
without_each P id (a ∷ xs) h = go (same_as id a.id) (without_each P id xs h.1)
  where
    go : (b : Bool) → Each P (without_first id xs) → Each P (cond b xs (a ∷ without_first id xs))
    go true i = h.1
    go false i = (h.0, i)

-- theorem: what holds of all graded alternatives holds of those of one level
pub of_level_each : (P : Graded → Type 0) (v : ℕ) (gs : List Graded) → Each P gs → Each P (of_level v gs)
unfolding of_level
of_level_each P v [] h = tt
of_level_each P v (g ∷ gs) h = go (eqb g.level v) (of_level_each P v gs h.1)
  where
    go : (b : Bool) → Each P (of_level v gs) → Each P (cond b (g ∷ of_level v gs) (of_level v gs))
    go true i = (h.0, i)
    go false i = i

module _ (four : Bool) (wd : ℕ) (ts : List Text) where
  attributes_within : (id : Text) (a : Alternative) → AlternativeWithin four wd ts a → AlternativeWithin four wd ts (with_attributes a (without_first id a.attributes))
  attributes_within id a h = record {
    span = h.span;
    few = omega (arith, h.few, without_few id a.attributes);
    attributes = without_each (AttributeWithin four wd ts) id a.attributes h.attributes;
    condition = h.condition;
    action = h.action;
    fewer = h.fewer;
    symbols = h.symbols;
  }

  levels-within : (l : ℕ) (as' : List Alternative) → Each (AlternativeWithin four wd ts) as' → Each (λ (x : Levelled). AlternativeWithin four wd ts x.alternative) (with_levels l as')
  levels-within l [] h = tt
  levels-within l (a ∷ rest) h = (attributes_within precedence a h.0, levels-within (level_of l (value_of precedence a.attributes)) rest h.1)

  -- what holds of a graded alternative
  abbrev pub GradedWithin : Graded → Type 0
  GradedWithin g = AlternativeWithin four wd ts g.alternative

  sides_within : (s : Side) (xs : List Levelled) → Each (λ (x : Levelled). AlternativeWithin four wd ts x.alternative) xs → Each GradedWithin (with_sides s xs)
  sides_within s [] h = tt
  sides_within s (x ∷ rest) h =
      (attributes_within assoc x.alternative h.0, sides_within (side_of (cond x.is_new all s) (value_of assoc x.alternative.attributes)) rest h.1)

  -- theorem: the graded alternatives of a nonterminal within limits are within them
  pub graded-within : (d : Nonterminal) → NonterminalWithin four wd ts d → Each GradedWithin (graded d)
  graded-within d h = sides_within all (with_levels 0 d.alternatives) (levels-within 0 d.alternatives h.alternatives)
