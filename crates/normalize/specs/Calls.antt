-- What a call says of a tape. Assumes nothing: these are definitions.
use Rattle.std.specs.Prelude.{cond, leb, List, ℕ, ◌+◌, ◌*◌, length}
use Rattle.parse_tree.specs.Plain.Tree.{Stage}
use Rattle.passes.specs.Outcome.{Outcome, no}
use Rattle.passes.specs.Calls.{nowhere}

-- "Is work at least 8 × (tape + output) bytes? 1"; x is what a pass leaves of the tape s
unfoldable pub in_room : List ℕ → ℕ → ℕ → Outcome Stage → Outcome Stage
in_room s cap work x = cond (leb (8 * (length s + cap)) work) x (no 1 nowhere)
