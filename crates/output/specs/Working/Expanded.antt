-- The last stage of macro expansion, as it stands before it is handed over. Assumes nothing: these are definitions.
use Rattle.std.specs.Prelude.{◌≡◌, List, ◌++◌, ℕ, ◌+◌, ◌-◌, ◌≤◌, length, drop, Ok}
use Rattle.octets.specs.Plain.Runs.{part, Lies}
use Rattle.parse_tree.specs.Plain.Tree.{Text, Stage}
use Rattle.parse_tree.specs.Plain.WriteTape.{bytes_of_each}
use Rattle.parse_tree.specs.Working.Encode.{atom_bytes, item_bytes}
use Rattle.texts.specs.declared.Map.{Map}
use Rattle.texts.specs.Table.{Table, texts}
use Rattle.passes.specs.Outcome.{yes}
use Rattle.passes.specs.Calls.{sizes}
use Rattle.output.specs.Working.Handing.{Staged}

-- the last stage g stands in work, its items from `from` up to `end`; n texts are the tape's, whose atoms stand before `at`
pub record LastStands (s w : List ℕ) (at n cap : ℕ) (m : Map) (from end : ℕ) (g : Stage) : Type 0 where
  pub first : List Text
  pub past : List Text
  pub many : n ≡ length first
  pub inside : at ≤ length s
  pub tape_atoms : part 0 at s ≡ bytes_of_each (atom_bytes 2) first
  pub atoms : g.atoms ≡ first ++ past
  pub table : Table s w m
  pub texts-are : texts s w m ≡ g.atoms
  pub items_lie : Lies w from (bytes_of_each (item_bytes 2 g.atoms) g.items) end
  pub fits : sizes 2 cap g ≡ yes g
  pub behind : from ≤ length w

pub record SomeLastStage (s w : List ℕ) (at n cap : ℕ) (m : Map) (from end : ℕ) : Type 0 where
  pub stage : Stage
  pub stands : LastStands s w at n cap m from end stage
  -- it fits
  pub ordered : from ≤ end
  pub upto : end ≤ length w
  pub room : at + length (bytes_of_each (atom_bytes 2) (drop n (texts s w m))) + (end - from) ≤ cap

-- the length r of its tree is answered
unfoldable pub HandsLast : List ℕ → List ℕ → ℕ → ℕ → Map → ℕ → ℕ → List ℕ → ℕ → List ℕ → Type 0
HandsLast s w at n m from end o r o' = (g : Stage) → LastStands s w at n (length o) m from end g → Staged (yes g) o (Ok r) o'
