-- A levelled stage on its way through resolving again and macros. Assumes nothing: these are definitions.
use Rattle.std.specs.Prelude.{◌≡◌, List, ℕ, ◌*◌, ◌^◌, ◌<◌, length}
use Rattle.parse_tree.specs.Plain.Tree.{Stage}
use Rattle.texts.specs.declared.Map.{Map}
use Rattle.passes.specs.Outcome.{Outcome, after}
use Rattle.passes.specs.Resolve.{resolve}
use Rattle.passes.specs.Stages.{macro_stages}
use Rattle.passes.specs.Calls.{sizes}
use Rattle.levels.specs.declared.Room.{Room}
use Rattle.levels.specs.declared.Written.{Written}
use Rattle.levels.specs.Settle.{SettledNames}
use Rattle.rounds.specs.declared.Room as rounds-room
use Rattle.stages.specs.Levelling.{levelled_of, SomeFitting}
use Rattle.stages.specs.Expanding.{macros_room}

-- "Resolving again: 5 to 13" makes no stage of its own; then the rounds
unfoldable pub again_stages : ℕ → ℕ → Stage → Outcome Stage
again_stages limit cap l = after (resolve l.items) (λ L. macro_stages (sizes 2 cap) limit (record { atoms = l.atoms; items = L }))

-- behind question 1: what the call says of the tape
unfoldable pub whole_of : List ℕ → ℕ → ℕ → Outcome Stage
whole_of s limit cap = after (levelled_of s cap) (again_stages limit cap)

-- ---- levels whose stage was admitted where work was `before`, and whose names are settled from `low` on; macros have the room x
pub record SomeSettled (s : List ℕ) (cap : ℕ) (m : Map) (at : ℕ) (room : Room) (v : Written) (x : rounds-room.Room) (low : ℕ) (w : List ℕ) : Type 0 where
  pub before : List ℕ
  pub fitting : SomeFitting s cap m at room v before
  pub narrow : length before * 1 < 2 ^ 63
  pub room_is : x ≡ macros_room (length s) at cap
  pub settled : SettledNames s before m v.count x.end low w
