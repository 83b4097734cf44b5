-- What holds of the trees where a round begins: texts, spans, soundness, calls, bounds, and what new texts cost. Assumes nothing: these are definitions.
use Rattle.std.specs.Prelude.{◌≡◌, true, false, List, [], ◌++◌, ℕ, ◌+◌, ◌*◌, ◌≤◌, length}
use Rattle.parse_tree.specs.Plain.Tree.{Text, Item}
use Rattle.parse_tree.specs.Plain.Texts.{distinct}
use Rattle.parse_tree.specs.Plain.WriteTape.{bytes_of_each}
use Rattle.parse_tree.specs.Working.Encode.{atom_bytes}
use Rattle.parse_tree.specs.Working.Within.{Each, SpanWithin, ItemWithin}
use Rattle.passes.specs.Outcome.{Tree}
use Rattle.passes.specs.Macros.{Pending, replace_items}
use Rattle.meaning.specs.Spans.{ItemSpans}
use Rattle.laws.specs.Counts.{heads}
use Rattle.laws.specs.Keys.{ItemSound, Piled}
use Rattle.rounds.specs.Calls.{ItemCalls}
use Rattle.rounds.specs.Paid.{TreeKnown, KeysKnown, Paid}

-- what is on the pile after replacing
abbrev pub piled_of : List Item → List Text → List Pending
piled_of fresh K = (replace_items fresh (record { keys = K; pile = [] })).1.pile

-- G has the macros, ts are the former stage's texts, `past` those that no tape had, of which so many names of macros' levels are owed; `old` are the items already replaced, `fresh` those added since, K the keys met so far
pub record BeginsRound (w : ℕ) (G : Tree) (old fresh : List Item) (K ts past : List Text) (owed : ℕ) : Type 0 where
  pub apart : distinct ts ≡ true
  pub macros-known : TreeKnown ts G
  pub old_known : TreeKnown ts old
  pub fresh_known : TreeKnown ts fresh
  pub keys_known : KeysKnown ts K
  pub macros-spans : Each (ItemSpans SpanWithin) G
  pub old_spans : Each (ItemSpans SpanWithin) old
  pub fresh_spans : Each (ItemSpans SpanWithin) fresh
  pub macros-sound : Each ItemSound G
  pub fresh_sound : Each ItemSound fresh
  pub piled : Piled (record { keys = K; pile = [] })
  pub macros-call : Each (ItemCalls G) G
  pub fresh_call : Each (ItemCalls G) fresh
  pub within : Each (ItemWithin false w ts) (old ++ fresh)
  -- the records of new texts, and all counts where a symbol is pushed
  pub records_paid : 24 * length past ≤ heads (old ++ fresh) + 4 * length (bytes_of_each (atom_bytes 2) past) + 4 * owed
  pub paid : 1 ≤ length (piled_of fresh K) → Paid owed past (old ++ fresh)
  -- a name of a macro's level has five bytes at least
  pub owed_few : 5 * owed ≤ length (bytes_of_each (atom_bytes 2) past)
