-- The stage that each pass leaves of a tape, for an output of so many bytes, and that it comes behind resolving. Assumes nothing.
use Rattle.std.specs.Prelude.{List, ℕ}
use Rattle.parse_tree.specs.Plain.Tree.{Stage}
use Rattle.passes.specs.Outcome.{Outcome}
use Rattle.stages.specs.Follows.{Follows}
use Rattle.stages.specs.Stages.{resolved}
use Rattle.stages.specs.Levelling.{levelled_of}
use Rattle.stages.specs.Expanding.{expanded_of}
use Rattle.stages.specs.Whole.{whole_of}
use Rattle.stages.specs.FollowsLaws.{levelled_follows, expanded_follows, whole_of_follows}
use Rattle.stages.specs.declared.resolving.Resolving.{Resolving}
use Rattle.stages.specs.declared.levelling.Levelling.{Levelling}
use Rattle.stages.specs.declared.expanding.Expanding.{Expanding}
use Rattle.stages.specs.declared.whole.Whole.{Whole}

abbrev pub resolving_stage : Resolving → List ℕ → ℕ → Outcome Stage
resolving_stage p s cap = resolved s cap

abbrev pub levelling_stage : Levelling → List ℕ → ℕ → Outcome Stage
levelling_stage p s cap = levelled_of s cap

abbrev pub expanding_stage : Expanding → List ℕ → ℕ → Outcome Stage
expanding_stage p s cap = expanded_of s p.limit cap

abbrev pub whole_stage : Whole → List ℕ → ℕ → Outcome Stage
whole_stage p s cap = whole_of s p.limit cap

-- ---- each comes behind resolving
pub resolving_follows : (p : Resolving) → Follows (resolving_stage p)
resolving_follows p = record { refuses = λ s cap q sp e. e; keeps = λ s cap ts e. e }

pub levelling_follows : (p : Levelling) → Follows (levelling_stage p)
levelling_follows p = levelled_follows

pub expanding_follows : (p : Expanding) → Follows (expanding_stage p)
expanding_follows p = expanded_follows p.limit

pub whole_follows : (p : Whole) → Follows (whole_stage p)
whole_follows p = whole_of_follows p.limit
