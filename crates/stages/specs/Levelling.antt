-- A stage on its way through levels. Assumes nothing: these are definitions.
use Rattle.std.specs.Prelude.{◌≡◌, true, false, List, ℕ, ◌+◌, ◌-◌, ◌*◌, ◌≤◌, ◌<◌, length, Result, Ok, Err}
use Rattle.octets.specs.Plain.Runs.{part}
use Rattle.parse_tree.specs.Plain.Tree.{Stage}
use Rattle.parse_tree.specs.Plain.Reading.{got}
use Rattle.parse_tree.specs.Plain.WriteTape.{bytes_of_each}
use Rattle.parse_tree.specs.Working.Decode.{decode}
use Rattle.parse_tree.specs.Working.Encode.{atom_bytes, item_bytes}
use Rattle.parse_tree.specs.Working.Within.{Each, ItemWithin, StageWithin}
use Rattle.texts.specs.Atoms.{some_long}
use Rattle.texts.specs.declared.Map.{Map}
use Rattle.texts.specs.Table.{Above, texts}
use Rattle.passes.specs.Outcome.{Tree, Outcome, yes, after}
use Rattle.passes.specs.Resolve.{resolve}
use Rattle.passes.specs.Levels.{levelled, check_levels}
use Rattle.passes.specs.Stages.{level_stage}
use Rattle.passes.specs.Calls.{sizes}
use Rattle.resolve.specs.declared.Grammar.{Grammar}
use Rattle.grades.specs.Ids.{ids_in}
use Rattle.levels.specs.declared.Room.{Room}
use Rattle.levels.specs.declared.Written.{Written}
use Rattle.levels.specs.Expand.{Wrote}
use Rattle.levels.specs.Whole.{alternatives_in}
use Rattle.levels.specs.Fresh.{new_texts}
use Rattle.output.specs.Working.Judging.{room_of}
use Rattle.output.specs.Plain.Answers.{answer_of}
use Rattle.parse_tree.specs.declared.refusal.Refusal.{Refusal}
use Rattle.stages.specs.declared.levelling.Levelled.{Levelled}
use Rattle.stages.specs.Stages.{Levelable, resolved}

-- behind question 1: what the call says of the tape
unfoldable pub levelled_of : List ℕ → ℕ → Outcome Stage
levelled_of s cap = after (resolved s cap) (level_stage (sizes 2 cap))

-- ---- a tape that was resolved, its grammar t standing in w
pub record SomeResolved (s w : List ℕ) (m : Map) (t : Grammar) (at : ℕ) : Type 0 where
  pub tape : Stage
  pub end : ℕ
  pub tree : Tree
  pub decoded : decode s ≡ got tape end
  pub is : resolve tape.items ≡ yes tree
  pub within : StageWithin true 2 tape
  pub many : m.count ≡ length tape.atoms
  pub inside : at ≤ length s
  pub atoms : part 0 at s ≡ bytes_of_each (atom_bytes 2) tape.atoms
  pub room : t.at + (length s - at) ≤ length w
  pub items : part t.at (t.at + (length s - at)) w ≡ bytes_of_each (item_bytes 2 tape.atoms) tree
  pub levels : Levelable s w m t at tape.atoms tree

-- ---- and whose resolved stage is admitted
pub record SomeAdmitted (s : List ℕ) (cap : ℕ) (m : Map) (t : Grammar) (at : ℕ) (w : List ℕ) : Type 0 where
  pub stood : SomeResolved s w m t at
  pub few : m.count ≤ 65536
  pub fits : length s ≤ cap
  pub enough : 8 * (length s + cap) ≤ length w

-- ---- its levels written: `before` is work as the pass found it
pub record SomeLevels (s : List ℕ) (cap : ℕ) (m : Map) (at : ℕ) (room : Room) (v : Written) (w : List ℕ) : Type 0 where
  pub tape : Stage
  pub tree : Tree
  pub admitted : resolved s cap ≡ yes (record { atoms = tape.atoms; items = tree })
  pub fine : check_levels tree ≡ yes tt
  pub is : resolve tape.items ≡ yes tree
  pub within : StageWithin true 2 tape
  pub many : m.count ≡ length tape.atoms
  pub inside : at ≤ length s
  pub atoms : part 0 at s ≡ bytes_of_each (atom_bytes 2) tape.atoms
  pub tree_within : Each (ItemWithin true 2 tape.atoms) tree
  pub some : 0 < length tree
  pub room_is : room ≡ room_of (length s) (length s - at) cap
  pub fits : length s ≤ cap
  pub enough : 8 * (length s + cap) ≤ length w
  pub before : List ℕ
  pub texts-are : texts s before m ≡ tape.atoms
  pub on_tape : (z : ℕ) → Above s before m z
  pub narrower : m.buckets ≤ m.count
  pub base : m.base ≡ 8 * (length s - at)
  pub records : m.base + 24 * m.count ≤ 8 * length s
  pub size : length (bytes_of_each (item_bytes 2 tape.atoms) tree) ≡ length s - at
  pub wrote : Wrote s m room 2 (ids_in tape.atoms) before (record { to = room.at; count = m.count }) (alternatives_in tree) (levelled tree) v w

-- and their stage is admitted
pub record SomeFitting (s : List ℕ) (cap : ℕ) (m : Map) (at : ℕ) (room : Room) (v : Written) (w : List ℕ) : Type 0 where
  pub levels : SomeLevels s cap m at room v w
  pub short : some_long (new_texts s w m v.count) ≡ false
  pub upto : v.to ≤ room.lim
  pub few : v.count ≤ 65536
  pub fits : at + length (bytes_of_each (atom_bytes 2) (new_texts s w m v.count)) + (v.to - room.at) ≤ cap

-- r is what levelling such a tape came to: a refusal of its levelled stage, or its levels, which are admitted, and their size
unfoldable pub LevelsTo : List ℕ → ℕ → Map → ℕ → Result Levelled Refusal → List ℕ → Type 0
LevelsTo s cap m at (Ok l) w = SomeFitting s cap m at l.room l.written w × (l.size ≡ at + length (bytes_of_each (atom_bytes 2) (new_texts s w m l.written.count)) + (l.written.to - l.room.at))
LevelsTo s cap m at (Err why) w = answer_of (levelled_of s cap) ≡ Err why
