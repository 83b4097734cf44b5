use Rattle.again.proofs.ListCode.{Listing}
use Prim.Native.Nat.{◌-◌}
use Rattle.again.proofs.list.list_items.Given as goal

abbrev pub invariant-loop-p : goal.invariant-loop-p
invariant-loop-p l = Listing l.initial.work l.width.bytes l.at l.end l.list l.work l.p l.n

abbrev pub decreases-loop-p : goal.decreases-loop-p
decreases-loop-p l = l.end - l.p
