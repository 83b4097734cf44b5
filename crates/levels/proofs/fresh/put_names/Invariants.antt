use Rattle.levels.proofs.FreshCode.{NamesPut}
use Rattle.levels.proofs.fresh.put_names.Given as goal

abbrev pub invariant-loop-k : goal.invariant-loop-k
invariant-loop-k l = NamesPut l.tape l.work l.m l.n l.to l.initial.out l.out l.k l.q
