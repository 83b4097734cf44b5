use Rattle.grades.proofs.AlternativesCode.{Walking}
use Rattle.grades.proofs.alternatives.grade.Given as goal

abbrev pub invariant-loop-i : goal.invariant-loop-i
invariant-loop-i l = Walking l.tape l.initial.work l.m l.width.bytes l.ids l.places l.keys l.n l.at l.e l.work l.p l.i l.before.level l.before.side l.ascending
