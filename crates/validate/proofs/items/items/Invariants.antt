use Prim.Native.Nat.{◌-◌}
use lib.ListN.{length}
use Rattle.validate.proofs.NotesCode.{Left}
use Rattle.validate.proofs.items.items.Given as goal

abbrev pub invariant-loop-p : goal.invariant-loop-p
invariant-loop-p l = Left l.tape l.m l.at l.initial.work l.work l.p l.k

abbrev pub decreases-loop-p : goal.decreases-loop-p
decreases-loop-p l = length l.tape - l.p
