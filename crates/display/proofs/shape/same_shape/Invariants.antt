use Prim.Native.Nat.{◌-◌}
use lib.ListN.{length}
use Rattle.display.proofs.ShapeCode.{Running}
use Rattle.display.proofs.shape.same_shape.Given as goal

abbrev pub invariant-loop-k : goal.invariant-loop-k
invariant-loop-k l = Running l.work l.width.bytes l.a l.b l.p l.q l.k

abbrev pub decreases-loop-k : goal.decreases-loop-k
decreases-loop-k l = length l.work - l.p
