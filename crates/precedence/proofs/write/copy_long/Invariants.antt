use Rattle.octets.proofs.RunsCopyCode.{Copying}
use Rattle.precedence.proofs.write.copy_long.Given as goal

abbrev pub invariant-loop-i : goal.invariant-loop-i
invariant-loop-i l = Copying l.initial.work l.initial.work l.a l.to l.i l.work
