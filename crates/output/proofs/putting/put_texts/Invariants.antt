use Rattle.output.proofs.PuttingCode.{TextsPut}
use Rattle.output.proofs.putting.put_texts.Given as goal

abbrev pub invariant-loop-k : goal.invariant-loop-k
invariant-loop-k l = TextsPut l.tape l.work l.fn.m l.n l.to l.initial.out l.out l.k l.q
