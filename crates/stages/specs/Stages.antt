-- A stage in work, and what is answered to it. Assumes nothing: these are definitions.
use Rattle.std.specs.Prelude.{◌≡◌, true, List, ℕ, ◌+◌, ◌-◌, ◌*◌, ◌≤◌, ◌<◌, length, replicate, Result, Ok, Err}
use Rattle.octets.specs.Plain.Runs.{part}
use Rattle.parse_tree.specs.Plain.Tree.{Text, Stage}
use Rattle.parse_tree.specs.Plain.Reading.{Reading, got, refused}
use Rattle.parse_tree.specs.Plain.ReadTape.{read_tape}
use Rattle.parse_tree.specs.Plain.WriteTape.{bytes_of_each}
use Rattle.parse_tree.specs.Working.Decode.{decode}
use Rattle.parse_tree.specs.Working.Encode.{atom_bytes, item_bytes}
use Rattle.parse_tree.specs.Working.Refusals.{refusal_at, refusal_over}
use Rattle.parse_tree.specs.Working.Within.{Each, ItemWithin, StageWithin}
use Rattle.texts.specs.declared.Map.{Map}
use Rattle.texts.specs.Table.{Table, Above, texts}
use Rattle.passes.specs.Outcome.{Tree, Outcome, yes, no, after}
use Rattle.passes.specs.Resolve.{resolve}
use Rattle.passes.specs.Stages.{resolve_stage}
use Rattle.passes.specs.Calls.{read_as, sizes}
use Rattle.resolve.specs.declared.Grammar.{Grammar}
use Rattle.resolve.specs.Items.{Row}
use Rattle.levels.specs.Whole.{Before}
use Rattle.output.specs.Plain.Answers.{answer_of}
use Rattle.parse_tree.specs.declared.refusal.Refusal.{Refusal}
use Rattle.stages.specs.declared.Resolved.{Resolved}

-- behind question 1, without an output: the answer to 2 to 4, and work cleared
pub record Judged (s w : List ℕ) (r : Result ℕ Refusal) (w' : List ℕ) : Type 0 where
  pub answered : r ≡ answer_of (read_as (read_tape true 2 s))
  pub zeroed : w' ≡ replicate (length w) 0

-- ---- a tape resolved: g is its tree, R the items resolved

-- what levels ask of it: its table and its grammar, as they stand in work; all texts stand on the tape
pub record Levelable (s w : List ℕ) (m : Map) (t : Grammar) (at : ℕ) (ts : List Text) (R : Tree) : Type 0 where
  pub table : Table s w m
  pub texts-are : texts s w m ≡ ts
  pub on_tape : (z : ℕ) → Above s w m z
  pub some : 0 < length R → 0 < m.buckets
  pub narrower : m.buckets ≤ m.count
  pub width : t.width.bytes ≡ 2
  pub row : Row t ts w 0 t.at R
  pub within : Each (ItemWithin true 2 ts) R
  pub many : t.count ≡ length R
  pub before : 0 < t.count → Before m t
  pub base : m.base ≡ 8 * (length s - at)
  pub records : m.base + 24 * m.count ≤ 8 * length s
  pub heads : m.base + 24 * m.buckets ≤ 8 * length s

pub record Stands (s : List ℕ) (g : Stage) (R : Tree) (r : Result Resolved Refusal) (w : List ℕ) : Type 0 where
  pub found : Resolved
  pub is : r ≡ Ok found
  pub within : StageWithin true 2 g
  pub many : found.texts.count ≡ length g.atoms
  pub inside : found.at ≤ length s
  pub atoms : part 0 found.at s ≡ bytes_of_each (atom_bytes 2) g.atoms
  pub room : found.grammar.at + (length s - found.at) ≤ length w
  pub items : part found.grammar.at (found.grammar.at + (length s - found.at)) w ≡ bytes_of_each (item_bytes 2 g.atoms) R
  pub levels : Levelable s w found.texts found.grammar found.at g.atoms R

unfoldable pub StandsBy : List ℕ → Stage → Outcome Tree → Result Resolved Refusal → List ℕ → Type 0
StandsBy s g (yes R) r w = Stands s g R r w
StandsBy s g (no q p) r w = r ≡ Err (refusal_over q p)

-- questions 2 to 4, then 5 to 13
unfoldable pub TapeReads : List ℕ → Reading Stage → Result Resolved Refusal → List ℕ → Type 0
TapeReads s (got g e) r w = StandsBy s g (resolve g.items) r w
TapeReads s (refused q p) r w = r ≡ Err (refusal_at q p)

unfoldable pub TapeResolves : List ℕ → Result Resolved Refusal → List ℕ → Type 0
TapeResolves s r w = TapeReads s (decode s) r w

-- behind question 1: what the call says of the tape
unfoldable pub resolved : List ℕ → ℕ → Outcome Stage
resolved s cap = after (read_as (decode s)) (resolve_stage (sizes 2 cap))
