use Rattle.settling.proofs.PushedAllCode.{Marking}
use Rattle.settling.proofs.pushed.mark_pushed.Given as goal

abbrev pub invariant-loop-j : goal.invariant-loop-j
invariant-loop-j l = Marking l.tape l.initial.work l.g l.n l.j l.work
