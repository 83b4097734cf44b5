-- The names of the levels. Assumes nothing: these are definitions.
use Rattle.std.specs.Prelude.{List, map}
use Rattle.parse_tree.specs.Plain.Tree.{Text, Nonterminal}
use Rattle.passes.specs.Grades.{Graded, graded}
use Rattle.passes.specs.Levels.{Group, grouped}

-- the names of a nonterminal's levels, ascending
unfoldable pub group_names : Nonterminal → List Text
group_names d = map (λ (g : Group Graded). g.name) (grouped d.name (graded d))
