-- The calls: from a tape, a limit and the buffers' lengths to the answer and to what output and work hold afterwards. Assumes nothing: these are definitions.
use Rattle.std.specs.Prelude.{ℕ, ◌+◌, ◌*◌, Bool, cond, List, [], ◌∷◌, ◌++◌, leb, length, drop, replicate}
use Rattle.parse_tree.specs.Plain.Tree.{Stage}
use Rattle.parse_tree.specs.Plain.Reading.{Reading, got, refused}
use Rattle.parse_tree.specs.Plain.WriteTape.{tape_of}
use Rattle.parse_tree.specs.Plain.ReadTape.{read_tape}
use Rattle.parse_tree.specs.declared.syntax.Span.{Span}
use Rattle.passes.specs.Outcome.{Outcome, yes, no, after}
use Rattle.passes.specs.Sizes.{stage_fits}
use Rattle.passes.specs.Stages.{resolve_stage, level_stage, macro_stages, all_stages}

-- "1 gives 0 0", "20 and 21 0 0"
abbrev pub nowhere : Span
nowhere = record { 0 = 0; 1 = 0 }

-- "2 to 4 the command's offset twice"
abbrev pub read_as : Reading Stage → Outcome Stage
read_as (got g e) = yes g
read_as (refused n p) = no n (record { 0 = p; 1 = p })

-- "Each finished stage: .. 20. Tape no longer than the output buffer? 21"; atom numbers have w bytes, and the output cap
unfoldable pub sizes : ℕ → ℕ → Stage → Outcome Stage
sizes w cap g = cond (stage_fits w g) (cond (leb (length (tape_of w g)) cap) (yes g) (no 21 nowhere)) (no 20 nowhere)

-- four says whether question 4 is asked, w is the width of an atom's number in bytes; the exported calls fix true and 2
module _ (four : Bool) (w : ℕ) (tape : List ℕ) where
  -- "Is work at least 8 × (tape + output) bytes? 1", then 2 to 4; without an output this is the call for validating
  unfoldable pub validate_call : ℕ → ℕ → Outcome Stage
  validate_call cap work = cond (leb (8 * (length tape + cap)) work) (read_as (read_tape four w tape)) (no 1 nowhere)

  unfoldable pub resolve_call : ℕ → ℕ → Outcome Stage
  resolve_call cap work = after (validate_call cap work) (resolve_stage (sizes w cap))

  unfoldable pub levels_call : ℕ → ℕ → Outcome Stage
  levels_call cap work = after (resolve_call cap work) (level_stage (sizes w cap))

  unfoldable pub macros_call : ℕ → ℕ → ℕ → Outcome Stage
  macros_call limit cap work = after (resolve_call cap work) (macro_stages (sizes w cap) limit)

  unfoldable pub whole : ℕ → ℕ → ℕ → Outcome Stage
  whole limit cap work = after (validate_call cap work) (all_stages (sizes w cap) limit)

-- ---- what a call leaves

-- "A yes gives the length of the tree written. A no gives the number and a place of two 64-bit numbers": five words, the last kept at 0
unfoldable pub answer_words : ℕ → Outcome Stage → List ℕ
answer_words w (yes g) = 1 ∷ length (tape_of w g) ∷ 0 ∷ 0 ∷ 0 ∷ []
answer_words w (no n s) = 0 ∷ n ∷ s.0 ∷ s.1 ∷ 0 ∷ []

-- demand 1: "the expanded tree from its first byte and its old bytes behind that; after a refusal it holds only its old bytes"
unfoldable pub written : ℕ → Outcome Stage → List ℕ → List ℕ
written w (yes g) old = tape_of w g ++ drop (length (tape_of w g)) old
written w (no n s) old = old

-- demand 1: "The work buffer is zero after every call that found it long enough"; document 01: "1, work untouched"
unfoldable pub work_after : List ℕ → ℕ → List ℕ → List ℕ
work_after tape cap work = cond (leb (8 * (length tape + cap)) (length work)) (replicate (length work) 0) work
