-- One round in work, and all: what its steps leave. s is the tape, w is work before and w' after. Assumes nothing: these are definitions.
use Rattle.std.specs.Prelude.{◌≡◌, false, List, ◌++◌, ℕ, ◌+◌, ◌-◌, ◌*◌, ◌^◌, ◌≤◌, ◌<◌, length, Result, Ok, Err}
use Rattle.octets.specs.Plain.Numbers.{Bytes}
use Rattle.octets.specs.Plain.Runs.{Lies}
use Rattle.parse_tree.specs.Plain.Tree.{Text, Item, Stage}
use Rattle.parse_tree.specs.Plain.References.{stage_of}
use Rattle.parse_tree.specs.Plain.WriteTape.{bytes_of_each}
use Rattle.parse_tree.specs.Working.Encode.{atom_bytes, item_bytes}
use Rattle.parse_tree.specs.Working.Refusals.{refusal_over}
use Rattle.texts.specs.Atoms.{some_long}
use Rattle.texts.specs.Table.{Table, texts}
use Rattle.passes.specs.Outcome.{Outcome, yes, no, after}
use Rattle.passes.specs.Macros.{Pending, drain, without_macros}
use Rattle.passes.specs.Stages.{rounds}
use Rattle.passes.specs.Calls.{sizes}
use Rattle.resolve.specs.declared.Grammar.{Grammar}
use Rattle.expander.specs.declared.Ground.{Ground}
use Rattle.expander.specs.Ground.{stage_in, key_at}
use Rattle.expander.specs.Stage.{Stages}
use Rattle.expander.specs.Names.{listed_texts}
use Rattle.settling.specs.declared.settle.Settled.{Settled}
use Rattle.settling.specs.Settle.{new_bytes, MarkedPushed, Settles}
use Rattle.appending.specs.declared.Appended.{Appended}
use Rattle.appending.specs.Pieces.{Appends}
use Rattle.std.specs.declared.ops.ControlFlow.{ControlFlow}
use Rattle.std.specs.declared.ops.ControlFlow.TheVariants.{Continue, Break}
use Rattle.parse_tree.specs.declared.refusal.Refusal.{Refusal}
use Rattle.macro_expand.specs.Drain.{items_piece}
use Rattle.rounds.specs.declared.Room.{Room}
use Rattle.rounds.specs.declared.State.{State}
use Rattle.rounds.specs.declared.round.Half.{Half}
use Rattle.rounds.specs.Steps.{numbers_pending}
use Rattle.rounds.specs.Judge.{Verdict, verdict, SomeStageSize}
use Rattle.rounds.specs.Start.{Cleared, StartsAppending, at_start, replaced_by}
use Rattle.rounds.specs.Grounds.{Grounds}
use Rattle.rounds.specs.Step.{RoundInput, RoundOutput, done, more, append_items, pending_round, one_round}
use Rattle.rounds.specs.Standing.{RoundTrees, round_atoms, input_of, RoundStands}

-- there are such trees
pub record SomeRound (s w : List ℕ) (room : Room) (t : Grammar) (z : State) : Type 0 where
  pub trees : RoundTrees
  pub standing : RoundStands s w room t z trees

-- ---- the replacing stage

-- what replacing gives, and what is pending then
abbrev pub replaced_of : RoundTrees → List Item
replaced_of T = (replaced_by T.items T.keys).0

abbrev pub pending_of : RoundTrees → List Pending
pending_of T = (replaced_by T.items T.keys).1.pile

abbrev pub replaced_stage : RoundTrees → Stage
replaced_stage T = stage_of (round_atoms T) (T.old ++ replaced_of T)

-- from w to w' the ground was laid, and the items replaced
pub record Halfway (s w : List ℕ) (room : Room) (t : Grammar) (z : State) (h : Half) (w' : List ℕ) : Type 0 where
  pub middle : List ℕ
  pub grounds : Grounds s w z.m t.width.bytes z.from z.end room.x h.g middle
  pub bytes : Bytes (stage_in middle h.g)
  pub stages : Stages s middle h.g z.done h.r w'
  pub numbers : h.expander ≡ numbers_pending z.expander h.r.pile

-- what is left where nothing is pending
abbrev pub finished_state : State → Half → State
finished_state z h = record { expander = h.expander; m = z.m; from = z.from; end = z.end; done = h.r.to; low = z.low }

-- of some trees
pub record SomeHalf (s w : List ℕ) (room : Room) (t : Grammar) (z : State) (h : Half) : Type 0 where
  pub work : List ℕ
  pub trees : RoundTrees
  pub standing : RoundStands s work room t z trees
  pub halfway : Halfway s work room t z h w

-- ---- the sizes of a stage of the round, that replacing or appending leaves: v tells of it

-- they can be asked
pub record Sizeable (s w : List ℕ) (room : Room) (z : State) (h : Half) (v : Appended) : Type 0 where
  pub past : z.low ≤ room.end
  pub items : room.y ≤ v.to
  pub size : SomeStageSize s w h.g h.r.pile v.count (room.first + (room.end - z.low) + (v.to - room.y))

-- its verdict, by the numbers that stand in w
unfoldable pub stage_verdict : List ℕ → List ℕ → Room → State → Half → Appended → Verdict
stage_verdict s w room z h v =
    verdict (h.g.m.count + v.count) (some_long (listed_texts s w h.g v.count)) v.deep
    (room.first + (room.end - z.low) + (v.to - room.y) + length (new_bytes s w h.g v.count)) room.cap

-- the record of the last of n pushed symbols, and its command, can be read
pub record SomeLast (w : List ℕ) (g : Ground) (n : ℕ) : Type 0 where
  pub some : 0 < n
  pub record_room : g.keys + 24 * (n - 1) + 24 ≤ length w
  pub place : g.from + key_at w g (n - 1) + 9 ≤ length w
  pub short : length w < 256 ^ 8

-- ---- the appending stage

-- a stage is admitted
abbrev pub Fine : Room → Stage → Type 0
Fine room g = sizes 2 room.cap g ≡ yes g

-- the replacing stage was admitted, and a symbol is pending
pub record SomePending (s w : List ℕ) (room : Room) (t : Grammar) (z : State) (h : Half) : Type 0 where
  pub half : SomeHalf s w room t z h
  pub pushed : 0 < h.r.pile
  pub admitted : Fine room (replaced_stage half.trees)

-- items may be appended up to there
unfoldable pub limit_of : Room → State → ℕ
limit_of room z = room.y + (room.cap - room.first - (room.end - z.low))

abbrev pub appended_stage : RoundTrees → List Item → Stage
appended_stage T new = stage_of (replaced_stage T).atoms (T.old ++ replaced_of T ++ new)

-- from w to w' the words of built-in texts were cleared, and the items `new` of the pile appended; `ground` is work with the ground laid
pub record Drained (s w : List ℕ) (room : Room) (t : Grammar) (z : State) (T : RoundTrees) (h : Half) (ground : List ℕ) (new : List Item) (v : Appended) (w' : List ℕ) : Type 0 where
  pub middle : List ℕ
  pub cleared : Cleared h.g.slots w middle
  pub starts : StartsAppending s ground h.g h.r T.items T.keys (limit_of room z) t false T.definitions middle
  pub appends : Appends s h.g h.r.pile (limit_of room z) starts.places middle (at_start h.r) (items_piece 2 new) v w'

unfoldable pub DrainedTo : List ℕ → List ℕ → Room → Grammar → State → RoundTrees → Half → List ℕ → Outcome (List Item) → Result Appended Refusal → List ℕ → Type 0
DrainedTo s w room t z T h ground (yes new) r w' = (v : Appended) × (r ≡ Ok v) × Drained s w room t z T h ground new v w'
DrainedTo s w room t z T h ground (no k sp) r w' = r ≡ Err (refusal_over k sp)

-- of all trees
unfoldable pub DrainsPile : List ℕ → List ℕ → Room → Grammar → State → Half → Result Appended Refusal → List ℕ → Type 0
DrainsPile s w room t z h r w' = (work : List ℕ) (T : RoundTrees) → RoundStands s work room t z T → (H : Halfway s work room t z h w) → 0 < h.r.pile → Fine room (replaced_stage T)
    → DrainedTo s w room t z T h H.middle (drain T.definitions (pending_of T)) r w'

-- ---- the next round
abbrev pub next_trees : RoundTrees → List Item → List Text → RoundTrees
next_trees T new us = record { definitions = T.definitions; first = T.first; past = T.past ++ us; old = T.old ++ replaced_of T; items = new; keys = (replaced_by T.items T.keys).1.keys; owed = T.owed; rounds = T.rounds + 1 }

-- items were appended
pub record SomeAppended (s w : List ℕ) (room : Room) (t : Grammar) (z : State) (h : Half) (v : Appended) : Type 0 where
  pub before : List ℕ
  pub pending : SomePending s before room t z h
  pub new : List Item
  pub is : drain pending.half.trees.definitions (pending_of pending.half.trees) ≡ yes new
  pub drained : Drained s before room t z pending.half.trees h pending.half.halfway.middle new v w

abbrev pub trees_in : {s w : List ℕ} {room : Room} {t : Grammar} {z : State} {h : Half} {v : Appended} → SomeAppended s w room t z h v → RoundTrees
trees_in I = I.pending.half.trees

-- and their stage was admitted
pub record SomeDrained (s w : List ℕ) (room : Room) (t : Grammar) (z : State) (h : Half) (v : Appended) : Type 0 where
  pub items : SomeAppended s w room t z h v
  pub admitted : Fine room (appended_stage (trees_in items) items.new)

-- from w to w' the texts of pushed symbols were marked, and the new texts settled
pub record SettlesTexts (s w : List ℕ) (z : State) (h : Half) (v : Appended) (r : Settled) (w' : List ℕ) : Type 0 where
  pub middle : List ℕ
  pub marked : MarkedPushed s w h.g h.r.pile middle
  pub settles : Settles s middle h.g v.count z.low r w'

pub record Next (s w : List ℕ) (room : Room) (t : Grammar) (z : State) (T : RoundTrees) (new : List Item) : Type 0 where
  pub more : List Text
  pub atoms : (appended_stage T new).atoms ≡ round_atoms T ++ more
  pub standing : RoundStands s w room t z (next_trees T new more)

-- r is what the next round begins with
unfoldable pub SettlesRound : List ℕ → List ℕ → Room → Grammar → State → Half → Appended → State → List ℕ → Type 0
SettlesRound s w room t z h v r w' = (D : SomeDrained s w room t z h v) → Next s w' room t r (trees_in D.items) D.items.new

-- ---- one round

-- g is the last stage: the table has its texts, those of the tape first, and its items stand in work
pub record Finished (s w : List ℕ) (room : Room) (z : State) (first : List Text) (g : Stage) : Type 0 where
  pub past : List Text
  pub atoms : g.atoms ≡ first ++ past
  pub table : Table s w z.m
  pub texts-are : texts s w z.m ≡ g.atoms
  pub past_fills : room.end ≡ z.low + length (bytes_of_each (atom_bytes 2) past)
  pub items_lie : Lies w room.y (bytes_of_each (item_bytes 2 g.atoms) g.items) z.done
  pub fits : sizes 2 room.cap g ≡ yes g

-- p is what another round begins with
pub record Further (s w : List ℕ) (room : Room) (t : Grammar) (z : State) (T : RoundTrees) (p : RoundInput) : Type 0 where
  pub trees : RoundTrees
  pub definitions : trees.definitions ≡ T.definitions
  pub first : trees.first ≡ T.first
  pub rounds : trees.rounds ≡ T.rounds + 1
  pub input : input_of trees ≡ p
  pub standing : RoundStands s w room t z trees

unfoldable pub RoundTo : List ℕ → Room → Grammar → RoundTrees → Outcome RoundOutput → Result (ControlFlow State State) Refusal → List ℕ → Type 0
RoundTo s room t T (yes (done g)) r w' = (z : State) × (r ≡ Ok (Break z)) × Finished s w' room z T.first g
RoundTo s room t T (yes (more p)) r w' = (z : State) × (r ≡ Ok (Continue z)) × Further s w' room t z T p
RoundTo s room t T (no k sp) r w' = r ≡ Err (refusal_over k sp)

-- what the next round begins with, where k is the appending stage
abbrev pub next_input : RoundTrees → List Item → Stage → RoundInput
next_input T new k = record { atoms = k.atoms; old = T.old ++ replaced_of T; fresh = new; keys = (replaced_by T.items T.keys).1.keys }

-- what the next round begins with, as the answer of a round behind which another comes
abbrev pub another : Result State Refusal → Result (ControlFlow State State) Refusal
another (Ok z) = Ok (Continue z)
another (Err why) = Err why

-- 20 and 21 of the appending stage, and then the next round
unfoldable pub AnswersItems : List ℕ → List ℕ → Room → Grammar → State → Half → Appended → Result State Refusal → List ℕ → Type 0
AnswersItems s w room t z h v r w' = (I : SomeAppended s w room t z h v)
    → RoundTo s room t (trees_in I) (after (sizes 2 room.cap (appended_stage (trees_in I) I.new)) (λ k. yes (more (next_input (trees_in I) I.new k)))) (another r) w'

-- "then per round one after replacing symbols and one after appending items"; the second half alone
unfoldable pub AppendsRound : List ℕ → List ℕ → Room → Grammar → State → Half → Result State Refusal → List ℕ → Type 0
AppendsRound s w room t z h r w' = (work : List ℕ) (T : RoundTrees) → RoundStands s work room t z T → Halfway s work room t z h w → 0 < h.r.pile → Fine room (replaced_stage T)
    → RoundTo s room t T (append_items (sizes 2 room.cap) T.definitions T.old (replaced_by T.items T.keys) (replaced_stage T)) (another r) w'

-- both
unfoldable pub AnswersHalf : List ℕ → List ℕ → Room → Grammar → State → Half → Result (ControlFlow State State) Refusal → List ℕ → Type 0
AnswersHalf s w room t z h r w' = (work : List ℕ) (T : RoundTrees) → RoundStands s work room t z T → Halfway s work room t z h w
    → RoundTo s room t T (pending_round (pending_of T) (sizes 2 room.cap (replaced_stage T)) (append_items (sizes 2 room.cap) T.definitions T.old (replaced_by T.items T.keys))) r w'

-- and the whole, where another may come
unfoldable pub OneRound : List ℕ → List ℕ → Room → Grammar → State → Result (ControlFlow State State) Refusal → List ℕ → Type 0
OneRound s w room t z r w' = (T : RoundTrees) → RoundStands s w room t z T → RoundTo s room t T (one_round (sizes 2 room.cap) T.definitions (input_of T)) r w'

-- ---- all of them: of so many in all those that are not done
unfoldable pub RoundsTo : List ℕ → Room → List Text → Outcome Stage → Result State Refusal → List ℕ → Type 0
RoundsTo s room first (yes g) r w' = (z : State) × (r ≡ Ok z) × Finished s w' room z first g
RoundsTo s room first (no k sp) r w' = r ≡ Err (refusal_over k sp)

-- the last round, which is all of them where none is left
unfoldable pub LastRound : List ℕ → List ℕ → Room → Grammar → State → Result State Refusal → List ℕ → Type 0
LastRound s w room t z r w' = (T : RoundTrees) → RoundStands s w room t z T
    → RoundsTo s room T.first (rounds (sizes 2 room.cap) T.definitions 0 (round_atoms T) T.old (without_macros T.items) T.keys) r w'

unfoldable pub AllRounds : List ℕ → List ℕ → Room → Grammar → ℕ → State → Result State Refusal → List ℕ → Type 0
AllRounds s w room t limit z r w' = (T : RoundTrees) → RoundStands s w room t z T
    → RoundsTo s room T.first (rounds (sizes 2 room.cap) T.definitions (limit - z.expander.round) (round_atoms T) T.old (without_macros T.items) T.keys) r w'
