use Rattle.rounds.proofs.DefineCode.{Defining}
use Rattle.rounds.proofs.define.define_items.Given as goal

abbrev pub invariant-loop-i : goal.invariant-loop-i
invariant-loop-i l = Defining l.tape l.initial.work l.m l.t l.work l.i
