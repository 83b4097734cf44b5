use Rattle.expander.proofs.MeetCode.{Ending}
use lib.ListN.{length}
use Prim.Native.Nat.{◌-◌}
use Rattle.expander.proofs.meet.symbol_end.Given as goal

abbrev pub invariant-loop-k : goal.invariant-loop-k
invariant-loop-k l = Ending l.work l.width.bytes l.at l.p l.k

abbrev pub decreases-loop-k : goal.decreases-loop-k
decreases-loop-k l = length l.work - l.p
