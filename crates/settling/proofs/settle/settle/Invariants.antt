use Rattle.settling.proofs.SettleLaws.{Going}
use Rattle.settling.proofs.settle.settle.Given as goal

abbrev pub invariant-loop-i : goal.invariant-loop-i
invariant-loop-i l = Going l.tape l.initial.work l.g l.c l.end l.i l.q l.work
