-- The level and the side of an alternative that stands in work, as `graded` reads them. wd is the width of an atom's number in bytes, ts are the texts.
-- Assumes nothing: these are definitions.
use Rattle.std.specs.Prelude.{List, ℕ, ◌+◌, ◌*◌, ◌≤◌, ◌<◌, length, get_or, Option, Some, None, Result, Ok, Err}
use Rattle.parse_tree.specs.Plain.Tree.{Text}
use Rattle.parse_tree.specs.declared.refusal.Question.{Question}
use Rattle.texts.specs.declared.Map.{Map}
use Rattle.texts.specs.Fields.{mark_at}
use Rattle.texts.specs.Texts.{Whole}
use Rattle.grades.specs.declared.Assoc.{Assoc}
use Rattle.grades.specs.declared.Graded.{Graded}
use Rattle.grades.specs.declared.Ids.{Ids}
use Rattle.grades.specs.Annotations.{attributes_long, first_with, value_text}
use Rattle.grades.specs.Grade.{level_said, assoc_said}

-- the texts of the table can be read
pub record Worded (s w : List ℕ) (m : Map) : Type 0 where
  pub room : m.base + 24 * m.count ≤ length w
  pub whole : (i : ℕ) → i < m.count → Whole s w (mark_at w m.base i)

-- a level and a side, as the code's answer
abbrev pub graded_as : ℕ → Assoc → Result Graded Question
graded_as level side = Ok (record { level = level; side = side })

-- a level and the side that was read
unfoldable pub side_said : ℕ → Option Assoc → Result Graded Question
side_said level None = Err Question.Side
side_said level (Some s) = graded_as level s

-- the level is known, the `assoc` is the j-th of the attributes from `at` on, if there is one
unfoldable pub sided_at : ℕ → List Text → List ℕ → ℕ → Option ℕ → ℕ → Assoc → Result Graded Question
sided_at wd ts w at None level side = graded_as level side
sided_at wd ts w at (Some j) level side = side_said level (assoc_said (value_text wd ts w (at + attributes_long wd j)))

-- the level that was read resets the side
unfoldable pub level_then : (ℕ → Assoc → Result Graded Question) → Option ℕ → Result Graded Question
level_then f None = Err Question.Level
level_then f (Some v) = f v Assoc.FullyAssoc

-- the `precedence` is the i-th, if there is one
unfoldable pub graded_by : ℕ → List Text → List ℕ → ℕ → Option ℕ → Option ℕ → ℕ → Assoc → Result Graded Question
graded_by wd ts w at None j level side = sided_at wd ts w at j level side
graded_by wd ts w at (Some i) j level side = level_then (sided_at wd ts w at j) (level_said (value_text wd ts w (at + attributes_long wd i)))

-- of the alternative at a place, behind one of a level and a side
unfoldable pub graded_at : ℕ → Ids → List Text → List ℕ → ℕ → ℕ → Assoc → Result Graded Question
graded_at wd ids ts w at level side =
    let n = get_or w (at + 9) 0 in
    let a : ℕ = at + 14 + wd in
    graded_by wd ts w a (first_with wd ids.precedence w a n) (first_with wd ids.assoc w a n) level side
