-- What the texts of `precedence` and `assoc` say, as the code's answers, and a level's digits. Assumes nothing: these are definitions.
use Rattle.std.specs.Prelude.{◌≡◌, List, ℕ, ◌+◌, length, Option as Maybe, Some, None}
use Rattle.std.proofs.Math.Option.{Option, none, some}
use Rattle.octets.specs.Working.Stores.{store}
use Rattle.passes.specs.Grades.{Side, all, non, left, right, level_in, side_in}
use Rattle.passes.specs.Levels.{decimal}
use Rattle.grades.specs.declared.Assoc.{Assoc}

-- a level or nothing, as the code's answer
abbrev pub level_answer : Option ℕ → Maybe ℕ
level_answer none = None
level_answer (some v) = Some v

-- what the text of `precedence` says
unfoldable pub level_said : List ℕ → Maybe ℕ
level_said t = level_answer (level_in t)

-- a side as the code has it
abbrev pub assoc_of : Side → Assoc
assoc_of all = Assoc.FullyAssoc
assoc_of non = Assoc.NonAssoc
assoc_of left = Assoc.Left
assoc_of right = Assoc.Right

-- a side or nothing, as the code's answer
abbrev pub assoc_answer : Option Side → Maybe Assoc
assoc_answer none = None
assoc_answer (some s) = Some (assoc_of s)

-- what the text of `assoc` says
unfoldable pub assoc_said : List ℕ → Maybe Assoc
assoc_said t = assoc_answer (side_in t)

-- a level's digits: `decimal`, shut, since it is long where it is open
unfoldable pub level_digits : ℕ → List ℕ
level_digits v = decimal v

-- the digits of v, written to w from `to` on, leave w' and the place behind
pub record PutsDecimal (w : List ℕ) (to v r : ℕ) (w' : List ℕ) : Type 0 where
  pub bytes : w' ≡ store w to (level_digits v)
  pub after : r ≡ to + length (level_digits v)
