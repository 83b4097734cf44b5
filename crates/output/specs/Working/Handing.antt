-- A tree handed over to the output, what is answered to it, and an answer to its words. Assumes nothing: these are definitions.
use Rattle.std.specs.Prelude.{◌≡◌, false, List, [], ◌∷◌, ◌++◌, ℕ, ◌+◌, ◌-◌, ◌≤◌, length, drop, Result, Ok, Err}
use Rattle.octets.specs.Plain.Runs.{part}
use Rattle.parse_tree.specs.Plain.Tree.{Stage}
use Rattle.parse_tree.specs.Plain.WriteTape.{bytes_of_each}
use Rattle.parse_tree.specs.Working.Encode.{atom_bytes}
use Rattle.texts.specs.Atoms.{some_long}
use Rattle.texts.specs.declared.Map.{Map}
use Rattle.passes.specs.Outcome.{Outcome}
use Rattle.passes.specs.Calls.{written}
use Rattle.precedence.specs.Names.{Naming}
use Rattle.levels.specs.declared.Room.{Room}
use Rattle.levels.specs.declared.Written.{Written}
use Rattle.levels.specs.Fresh.{new_texts}
use Rattle.output.specs.Plain.Answers.{answer_of}
use Rattle.parse_tree.specs.declared.refusal.Refusal.{Refusal}

-- the tape's bytes before `at`, then as many of work from a on as the tape has behind `at`, at the front of the output
unfoldable pub handed : ℕ → List ℕ → ℕ → List ℕ → List ℕ → List ℕ
handed at s a w o = part 0 at s ++ (part a (a + (length s - at)) w ++ drop (length s) o)

-- the five words of an answer
unfoldable pub words_of : Result ℕ Refusal → List ℕ
words_of (Ok n) = 1 ∷ n ∷ 0 ∷ 0 ∷ 0 ∷ []
words_of (Err why) = 0 ∷ why.number ∷ why.from ∷ why.to ∷ 0 ∷ []

-- what is answered to a stage, and the output afterwards
pub record Staged (x : Outcome Stage) (o : List ℕ) (r : Result ℕ Refusal) (o' : List ℕ) : Type 0 where
  pub answered : r ≡ answer_of x
  pub tree : o' ≡ written 2 x o

-- ---- levels: there is room in an output of so many bytes
pub record HandsLevels (s : List ℕ) (at : ℕ) (w : List ℕ) (m : Map) (room : Room) (v : Written) (cap : ℕ) : Type 0 where
  pub inside : at ≤ length s
  pub naming : Naming s w m v.count
  pub short : some_long (new_texts s w m v.count) ≡ false
  pub from : room.at ≤ v.to
  pub upto : v.to ≤ length w
  pub fits : at + length (bytes_of_each (atom_bytes 2) (new_texts s w m v.count)) + (v.to - room.at) ≤ cap

-- the tree: the tape's atoms, the new names, the items
unfoldable pub levels_tree : List ℕ → ℕ → List ℕ → Map → Room → Written → List ℕ
levels_tree s at w m room v = part 0 at s ++ (bytes_of_each (atom_bytes 2) (new_texts s w m v.count) ++ part room.at v.to w)

-- at the front of the output
unfoldable pub handed_levels : List ℕ → ℕ → List ℕ → Map → Room → Written → List ℕ → List ℕ
handed_levels s at w m room v o = levels_tree s at w m room v ++ drop (length (levels_tree s at w m room v)) o
