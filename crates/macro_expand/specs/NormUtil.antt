-- The direct symbols of a group: how many are chosen, if none has a name. s is the tape, w is work. Assumes nothing: these are definitions.
use Rattle.std.specs.Prelude.{◌≡◌, Bool, cond, List, ℕ, ◌+◌, ◌≤◌, length, Option, Some, None}
use Rattle.parse_tree.specs.Plain.Tree.{Syms, count}
use Rattle.passes.specs.Macros.{has_name, chosen}
use Rattle.expander.specs.declared.Ground.{Ground}
use Rattle.expander.specs.Ground.{size_in, Grounded}
use Rattle.expander.specs.Replace.{StandAt}

-- k symbols stand at p
pub record SomeDirect (s w : List ℕ) (g : Ground) (p k : ℕ) : Type 0 where
  pub four : Bool
  pub left : ℕ
  pub end : ℕ
  pub symbols : Syms
  pub ground : Grounded s w g
  pub many : count symbols ≡ k
  pub stand : StandAt s w g four left p end symbols
  pub inside : end ≤ size_in g
  pub behind : g.end + 16 ≤ length w

-- `analyze_expr` of whatever k symbols stand there
unfoldable pub Analyzes : List ℕ → List ℕ → Ground → ℕ → ℕ → Option ℕ → Type 0
Analyzes s w g p k r = (four : Bool) (left e : ℕ) (ys : Syms) → count ys ≡ k → StandAt s w g four left p e ys → e ≤ size_in g → r ≡ cond (has_name ys) None (Some (chosen ys))
