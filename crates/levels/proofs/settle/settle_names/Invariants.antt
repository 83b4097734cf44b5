use Rattle.levels.proofs.SettleLaws.{Going}
use Rattle.levels.proofs.settle.settle_names.Given as goal

abbrev pub invariant-loop-k : goal.invariant-loop-k
invariant-loop-k l = Going l.tape l.initial.work l.m l.n l.end l.k l.q l.work
