-- Questions 20 and 21 of a stage by its numbers. Assumes nothing: these are definitions.
use Rattle.std.specs.Prelude.{ℕ, ◌<◌, Bool, List, ltb, Result, Ok, Err}
use Rattle.octets.specs.Working.Choice.{pick}
use Rattle.parse_tree.specs.Plain.Tree.{Stage}
use Rattle.parse_tree.specs.Working.Refusals.{refusal_at}
use Rattle.parse_tree.specs.declared.refusal.Refusal.{Refusal}
use Rattle.passes.specs.Outcome.{Outcome, yes, no}
use Rattle.expander.specs.declared.Ground.{Ground}
use Rattle.expander.specs.Ground.{Grounded}
use Rattle.expander.specs.Names.{Names}

-- that it is admitted, or why it is refused
abbrev pub Verdict : Type 0
Verdict = Result (Unit {0}) Refusal

-- 20: how many atoms it has, whether something is beyond what a tape can say
unfoldable pub ruled_counts : ℕ → Bool → Verdict
ruled_counts count beyond = pick (ltb 65536 count) (Err (refusal_at 20 0)) (pick beyond (Err (refusal_at 20 0)) (Ok tt))

-- 21: how many bytes it has, and how many are admitted
unfoldable pub ruled_length : ℕ → ℕ → Verdict
ruled_length bytes cap = pick (ltb cap bytes) (Err (refusal_at 21 0)) (Ok tt)

-- 20, 21, or that it is admitted: how many atoms it has, whether a text is too long, whether a symbol is nested too deep, how many bytes it has, and how many are admitted
unfoldable pub verdict : ℕ → Bool → Bool → ℕ → ℕ → Verdict
verdict count long deep bytes cap = pick (ltb 65536 count) (Err (refusal_at 20 0)) (pick long (Err (refusal_at 20 0)) (pick deep (Err (refusal_at 20 0)) (pick (ltb cap bytes) (Err (refusal_at 21 0)) (Ok tt))))

-- what that says of a stage
unfoldable pub admitted : Verdict → Stage → Outcome Stage
admitted (Ok u) g = yes g
admitted (Err why) g = no why.number (record { 0 = why.from; 1 = why.to })

-- n symbols were pushed, c texts are new; the bytes of the rest are fewer than half of what a number holds
pub record SomeStageSize (s w : List ℕ) (g : Ground) (n c bytes : ℕ) : Type 0 where
  pub places : List ℕ
  pub ground : Grounded s w g
  pub names : Names s w g n c places
  pub small : bytes < 9223372036854775808
