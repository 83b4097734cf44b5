use Rattle.display.proofs.WindowCode.{Running}
use Rattle.display.proofs.emit.emit_run.Given as goal

abbrev pub invariant-loop-b : goal.invariant-loop-b
invariant-loop-b l = Running l.x l.initial.out l.initial.q l.out l.b-index l.q
