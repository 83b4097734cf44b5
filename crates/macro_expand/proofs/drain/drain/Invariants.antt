use Rattle.macro_expand.proofs.DrainCode.{Draining}
use Rattle.macro_expand.proofs.drain.drain.Given as goal

abbrev pub invariant-loop-j : goal.invariant-loop-j
invariant-loop-j l = Draining l.tape l.round.g l.round.n l.round.lim l.t l.initial.work l.initial.x l.work l.x l.j
