use Rattle.rounds.proofs.DefineCells.{Forgetting}
use Rattle.rounds.proofs.define.forget.Given as goal

abbrev pub invariant-loop-k : goal.invariant-loop-k
invariant-loop-k l = Forgetting l.tape l.initial.work l.m l.work l.k
