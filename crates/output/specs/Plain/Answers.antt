-- How a call's definition is answered: the enum, the five words, the output and the work. Assumes nothing: these are definitions.
use Rattle.std.specs.Prelude.{◌≡◌, List, ℕ, length, Result, Ok, Err}
use Rattle.parse_tree.specs.Plain.Tree.{Stage}
use Rattle.parse_tree.specs.Plain.WriteTape.{tape_of}
use Rattle.passes.specs.Outcome.{Outcome, yes, no}
use Rattle.passes.specs.Calls.{answer_words, written, work_after}
use Rattle.parse_tree.specs.declared.refusal.Refusal.{Refusal}

-- "A yes gives the length of the tree written. A no gives the number and a place of two 64-bit numbers"
unfoldable pub answer_of : Outcome Stage → Result ℕ Refusal
answer_of (yes g) = Ok (length (tape_of 2 g))
answer_of (no n s) = Err (record { number = n; from = s.0; to = s.1 })

-- the answer, output and work of a call whose definition says x
pub record Called (x : Outcome Stage) (tape output work : List ℕ) (r : Result ℕ Refusal) (output' work' : List ℕ) : Type 0 where
  pub answered : r ≡ answer_of x
  pub tree : output' ≡ written 2 x output
  pub zeroed : work' ≡ work_after tape (length output) work

-- the same with the answer in five words
pub record Exported (x : Outcome Stage) (tape output work words output' work' : List ℕ) : Type 0 where
  pub answered : words ≡ answer_words 2 x
  pub tree : output' ≡ written 2 x output
  pub zeroed : work' ≡ work_after tape (length output) work

-- the answer and work of a call without an output
pub record Checked (x : Outcome Stage) (tape work : List ℕ) (r : Result ℕ Refusal) (work' : List ℕ) : Type 0 where
  pub answered : r ≡ answer_of x
  pub zeroed : work' ≡ work_after tape 0 work

-- the same with the answer in five words
pub record CheckedWords (x : Outcome Stage) (tape work words work' : List ℕ) : Type 0 where
  pub answered : words ≡ answer_words 2 x
  pub zeroed : work' ≡ work_after tape 0 work
