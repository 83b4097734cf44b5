use lib.ListN.{length}
use Prim.Native.Nat.{◌-◌}
use Rattle.validate.proofs.FrontCode.{Counting}
use Rattle.validate.proofs.front.front.Given as goal

abbrev pub invariant-loop-e : goal.invariant-loop-e
invariant-loop-e l = Counting l.tape l.at l.count

abbrev pub decreases-loop-e : goal.decreases-loop-e
decreases-loop-e l = length l.tape - l.at
