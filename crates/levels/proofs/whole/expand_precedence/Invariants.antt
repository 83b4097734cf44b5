use Rattle.levels.proofs.WholeMeanLoop.{Looping}
use Rattle.levels.proofs.whole.expand_precedence.Given as goal

abbrev pub invariant-loop-i : goal.invariant-loop-i
invariant-loop-i l = Looping l.tape l.fn.m l.fn.t l.fn.room l.initial.work l.initial.g.ids l.i l.v l.work
