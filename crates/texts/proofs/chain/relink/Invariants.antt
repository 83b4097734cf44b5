use Rattle.texts.proofs.ChainCode.{Chains}
use Rattle.texts.proofs.chain.relink.Given as goal

abbrev pub invariant-loop-i : goal.invariant-loop-i
invariant-loop-i l = Chains l.initial.work l.work l.m.base l.m.buckets l.e l.i
