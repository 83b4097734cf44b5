-- The passes on trees, as `expand_macros` over `expand_precedence` runs them. Assumes nothing: these are definitions.
use Rattle.std.specs.Prelude.{ℕ, []}
use Rattle.parse_tree.specs.Plain.Tree.{Stage}
use Rattle.passes.specs.Outcome.{Tree, Outcome, yes, after}
use Rattle.passes.specs.Resolve.{resolve}
use Rattle.passes.specs.Levels.{levels}
use Rattle.passes.specs.Stages.{macro_stages}

-- a stage's items
abbrev pub items_of : Outcome Stage → Outcome Tree
items_of r = after r (λ g. yes g.items)

-- a resolved tree expanded: the rounds, where every stage is admitted
unfoldable pub macros : ℕ → Tree → Outcome Tree
macros limit G = items_of (macro_stages yes limit (record { atoms = []; items = G }))

-- resolving, levels, "Resolving again", macros
unfoldable pub passes : ℕ → Tree → Outcome Tree
passes limit U = after (resolve U) (λ R. after (levels R) (λ L. after (resolve L) (λ G. macros limit G)))
