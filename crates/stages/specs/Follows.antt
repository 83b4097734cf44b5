-- What all passes have in common. Assumes nothing: these are definitions.
use Rattle.std.specs.Prelude.{◌≡◌, List, [], ℕ}
use Rattle.parse_tree.specs.Plain.Tree.{Text, Stage}
use Rattle.parse_tree.specs.declared.syntax.Span.{Span}
use Rattle.passes.specs.Outcome.{Outcome, yes, no}
use Rattle.stages.specs.Stages.{resolved}

-- a pass, by the stage that it leaves of a tape for an output of so many bytes, comes behind resolving
pub record Follows (stage : List ℕ → ℕ → Outcome Stage) : Type 0 where
  -- a refusal of the resolved stage is its answer
  pub refuses : (s : List ℕ) (cap q : ℕ) (sp : Span) → resolved s cap ≡ no q sp → stage s cap ≡ no q sp
  -- a grammar without items, which is admitted, stays as it is
  pub keeps : (s : List ℕ) (cap : ℕ) (ts : List Text) → resolved s cap ≡ yes (record { atoms = ts; items = [] }) → stage s cap ≡ yes (record { atoms = ts; items = [] })
