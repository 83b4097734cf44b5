-- A stage on its way through the rounds of macro expansion. Assumes nothing: these are definitions.
use Rattle.std.specs.Prelude.{◌≡◌, Bool, ◌⊎◌, List, [], ◌++◌, ℕ, ◌+◌, ◌-◌, ◌*◌, ◌/◌, ◌≤◌, ◌<◌, length, Result}
use Rattle.octets.specs.Plain.Runs.{part}
use Rattle.parse_tree.specs.Plain.Tree.{Text, Stage}
use Rattle.parse_tree.specs.Plain.WriteTape.{bytes_of_each}
use Rattle.parse_tree.specs.Working.Encode.{atom_bytes}
use Rattle.texts.specs.declared.Map.{Map}
use Rattle.texts.specs.Table.{Above, texts}
use Rattle.passes.specs.Outcome.{Tree, Outcome, after}
use Rattle.passes.specs.Stages.{macro_stages}
use Rattle.passes.specs.Calls.{sizes}
use Rattle.resolve.specs.declared.Grammar.{Grammar}
use Rattle.rounds.specs.declared.Room.{Room}
use Rattle.rounds.specs.declared.State.{State}
use Rattle.rounds.specs.Define.{Items}
use Rattle.rounds.specs.Standing.{RoundTrees, Mapped, GrownTrees}
use Rattle.rounds.specs.Round.{RoundsTo}
use Rattle.parse_tree.specs.declared.refusal.Refusal.{Refusal}
use Rattle.output.specs.Working.Handing.{Staged}
use Rattle.stages.specs.declared.Resolved.{Resolved}
use Rattle.stages.specs.Stages.{resolved}

-- where macros stand in work, for a tape of T bytes of which `at` are its atoms', and an output of W
unfoldable pub macros_room : ℕ → ℕ → ℕ → Room
macros_room T at W =
    let x = 8 * T + (5 * W - 2 * (W / 9)) in
    record { first = at; cap = W; x = x; y = x + 2 * W; end = x + 2 * W + (W + 2 * (W / 9)) }

-- behind question 1: what the call says of the tape
unfoldable pub expanded_of : List ℕ → ℕ → ℕ → Outcome Stage
expanded_of s limit cap = after (resolved s cap) (macro_stages (sizes 2 cap) limit)

-- ---- the first round

-- the trees of a grammar G: of its texts the tape has `first`, and no tape had `past`, among which so many names of macros' levels are owed
abbrev pub first_trees : Tree → List Text → List Text → ℕ → RoundTrees
first_trees G first past owed = record { definitions = G; first = first; past = past; old = []; items = G; keys = []; owed = owed; rounds = 0 }

-- an admitted stage that stands in work, its new texts from `low` on: all that the first round begins with, but for the cells
pub record FirstStands (s w : List ℕ) (m : Map) (t : Grammar) (room : Room) (low : ℕ) (four : Bool) (G : Tree) (first past : List Text) (owed : ℕ) : Type 0 where
  pub map : Mapped s (length w) room m.base
  pub atoms : room.first ≡ length (bytes_of_each (atom_bytes 2) first)
  pub grown : GrownTrees room.cap (first_trees G first past owed)
  pub items : Items s w m t four G
  pub buckets : 0 < m.buckets
  pub narrower : m.buckets ≤ m.count
  pub texts-are : texts s w m ≡ first ++ past
  pub above : Above s w m low
  pub past_fills : room.end ≡ low + length (bytes_of_each (atom_bytes 2) past)
  pub width : t.width.bytes ≡ 2
  pub some : 0 < length G
  pub off : (t.end ≤ m.base) ⊎ ((room.x + room.cap ≤ t.at) × (t.end ≤ room.y))

pub record SomeFirst (s w : List ℕ) (r : Resolved) (room : Room) (low : ℕ) : Type 0 where
  pub four : Bool
  pub tree : Tree
  pub first : List Text
  pub past : List Text
  pub owed : ℕ
  pub stands : FirstStands s w r.texts r.grammar room low four tree first past owed

-- x is what the rounds of every such stage come to
unfoldable pub FirstRounds : List ℕ → List ℕ → Resolved → Room → ℕ → ℕ → Result State Refusal → List ℕ → Type 0
FirstRounds s w r room low limit x w' = (four : Bool) (G : Tree) (first past : List Text) (owed : ℕ) → FirstStands s w r.texts r.grammar room low four G first past owed
    → RoundsTo s room first (macro_stages (sizes 2 room.cap) limit (record { atoms = first ++ past; items = G })) x w'

-- ---- the first round to the output. The stage's texts are the tape's, n of them, which stand before `r.at`, and then the new ones
pub record RunStands (s w : List ℕ) (cap : ℕ) (r : Resolved) (n : ℕ) (room : Room) (low : ℕ) (four : Bool) (G : Tree) (first past : List Text) (owed : ℕ) : Type 0 where
  pub stands : FirstStands s w r.texts r.grammar room low four G first past owed
  pub many : n ≡ length first
  pub inside : r.at ≤ length s
  pub atoms : part 0 r.at s ≡ bytes_of_each (atom_bytes 2) first
  pub cap_is : room.cap ≡ cap

pub record SomeRun (s w : List ℕ) (cap : ℕ) (r : Resolved) (n : ℕ) (room : Room) (low : ℕ) : Type 0 where
  pub four : Bool
  pub tree : Tree
  pub first : List Text
  pub past : List Text
  pub owed : ℕ
  pub stands : RunStands s w cap r n room low four tree first past owed

-- what is answered to every such stage
unfoldable pub RunsTo : List ℕ → List ℕ → Resolved → ℕ → Room → ℕ → ℕ → List ℕ → Result ℕ Refusal → List ℕ → Type 0
RunsTo s w r n room low limit o x o' = (four : Bool) (G : Tree) (first past : List Text) (owed : ℕ) → RunStands s w (length o) r n room low four G first past owed
    → Staged (macro_stages (sizes 2 (length o)) limit (record { atoms = first ++ past; items = G })) o x o'
