use Prim.Native.Nat.{◌-◌}
use Rattle.grades.proofs.SkipCode.{Skipping}
use Rattle.grades.proofs.skip.skip.Given as goal

abbrev pub invariant-loop-p : goal.invariant-loop-p
invariant-loop-p l = Skipping l.width.bytes l.e l.at l.n l.work l.p l.k

abbrev pub decreases-loop-p : goal.decreases-loop-p
decreases-loop-p l = l.e - l.p
