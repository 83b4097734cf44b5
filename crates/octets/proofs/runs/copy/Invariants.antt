use Rattle.octets.proofs.RunsCopyCode.{Copying}
use Rattle.octets.proofs.runs.copy.Given as goal

abbrev pub invariant-loop-i : goal.invariant-loop-i
invariant-loop-i l = Copying l.src l.initial.out l.a l.to l.i l.out
