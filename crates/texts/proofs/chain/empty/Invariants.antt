use Rattle.texts.proofs.ChainCode.{Emptying}
use Rattle.texts.proofs.chain.empty.Given as goal

abbrev pub invariant-loop-y : goal.invariant-loop-y
invariant-loop-y l = Emptying l.initial.work l.work l.m.base l.m.buckets l.y
