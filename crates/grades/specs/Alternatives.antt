-- All alternatives of a nonterminal graded, as `grade` goes: w is work as it stands at each step. wd is the width of an atom's number in bytes.
-- Assumes nothing: these are definitions.
use Rattle.std.specs.Prelude.{◌≡◌, Bool, false, List, ℕ, zero, suc, ◌+◌, ◌*◌, ◌%◌, ◌≤◌, ◌<◌, eqb, leb, ltb, length, Option, Some, None, Result, Ok, Err}
use Rattle.octets.specs.Plain.Numbers.{le_at, le}
use Rattle.octets.specs.Working.Choice.{pick}
use Rattle.octets.specs.Working.Stores.{store}
use Rattle.parse_tree.specs.Plain.Tree.{Text}
use Rattle.parse_tree.specs.declared.refusal.Question.{Question}
use Rattle.texts.specs.declared.Map.{Map}
use Rattle.texts.specs.Table.{Above, texts}
use Rattle.resolve.specs.Whole.{Apart}
use Rattle.grades.specs.declared.Assoc.{Assoc}
use Rattle.grades.specs.declared.Graded.{Graded}
use Rattle.grades.specs.declared.Ungraded.{Ungraded}
use Rattle.grades.specs.declared.Ids.{Ids}
use Rattle.grades.specs.Annotations.{symbols_from, alternative_end}
use Rattle.grades.specs.Grading.{Worded, graded_at}
use Rattle.grades.specs.Key.{grade_key, key_index}
use Rattle.grades.specs.Sort.{level_at}

-- a level and a side, or the question that fails, with the place of the alternative
unfoldable pub graded_there : ℕ → Result Graded Question → Result Graded Ungraded
graded_there at (Ok g) = Ok g
graded_there at (Err q) = Err (record { question = Some q; at = at })

-- those of the alternative at a place, if one stands there before e
unfoldable pub next_grade : ℕ → Ids → List Text → List ℕ → ℕ → ℕ → ℕ → Assoc → Result Graded Ungraded
next_grade wd ids ts w at e level side =
    pick (leb e at) (Err (record { question = None; at = at })) (pick (ltb e (symbols_from wd w at)) (Err (record { question = None; at = at })) (graded_there at (graded_at wd ids ts w at level side)))

-- its place and its key stored
unfoldable pub stored_grade : List ℕ → ℕ → ℕ → ℕ → ℕ → ℕ → Assoc → List ℕ
stored_grade w places keys i at level side = store (store w (places + 8 * i) (le 8 at)) (keys + 8 * i) (le 8 (grade_key level i side))

-- bytes from a up to b of work of so many, off the records of the table and before its texts, which stand from z on
pub record OffTable (m : Map) (long z a b : ℕ) : Type 0 where
  pub inside : b ≤ long
  pub below : b ≤ z
  pub records : Apart m.base (m.base + 24 * m.count) a b

-- n alternatives before e can be graded: there is room for both arrays
pub record Gradable (s w : List ℕ) (m : Map) (places keys n e : ℕ) : Type 0 where
  pub worded : Worded s w m
  pub few : n < 65536
  pub inside : e + 16 ≤ length w
  pub texts-from : ℕ
  pub above : Above s w m texts-from
  pub places-off : OffTable m (length w) texts-from places (places + 8 * n + 8)
  pub keys_off : OffTable m (length w) texts-from keys (keys + 8 * n)

-- the question that fails and the alternative's place, as the code's answer
abbrev pub ungraded_as : Question → ℕ → Result Bool Ungraded
ungraded_as q p = Err (record { question = Some q; at = p })

-- the answer, and what work becomes
pub data GradesOut : Type 0 where
  grades_out : Result Bool Ungraded → List ℕ → GradesOut

-- whether the levels still ascend
unfoldable pub still_ascends : Bool → ℕ → ℕ → Bool
still_ascends b level v = pick (ltb v level) false b

-- go on where a level and a side were read
unfoldable pub grade_then : (ℕ → Assoc → GradesOut) → List ℕ → Result Graded Ungraded → GradesOut
grade_then f w (Ok g) = f g.level g.side
grade_then f w (Err u) = grades_out (Err u) w

-- so many alternatives from p on, the first of index i, behind one of a level and a side; b says whether the levels ascend so far
unfoldable pub grade_from : ℕ → Ids → List ℕ → Map → ℕ → ℕ → ℕ → ℕ → ℕ → ℕ → ℕ → Assoc → Bool → List ℕ → GradesOut
grade_from wd ids s m e places keys zero i p level side b w = grades_out (Ok b) (store w (places + 8 * i) (le 8 p))
grade_from wd ids s m e places keys (suc n) i p level side b w =
    grade_then (λ v t. grade_from wd ids s m e places keys n (i + 1) (alternative_end wd w p e) v t (still_ascends b level v) (stored_grade w places keys i p v t))
    w (next_grade wd ids (texts s w m) w p e level side)

-- the answer r and work w' are those
pub record Grades (x : GradesOut) (r : Result Bool Ungraded) (w' : List ℕ) : Type 0 where
  pub is : x ≡ grades_out r w'

-- the place of the alternative of a key, if it is one of n
unfoldable pub place_of_key : List ℕ → ℕ → ℕ → ℕ → Option ℕ
place_of_key w places n k = pick (ltb (key_index k) n) (Some (le_at 8 w (places + 8 * (key_index k)))) None

-- among the keys left from the i-th on, the first of the first key's level whose side is not 3
unfoldable pub lowest_from : List ℕ → ℕ → ℕ → ℕ → ℕ → ℕ → Option ℕ
lowest_from w keys places n i zero = None
lowest_from w keys places n i (suc left) =
    let k = le_at 8 w (keys + 8 * i) in
    pick (eqb (level_at w keys i) (level_at w keys 0)) (pick (eqb (k % 4) 3) (lowest_from w keys places n (i + 1) left) (place_of_key w places n k)) None
