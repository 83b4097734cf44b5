use Rattle.appending.proofs.SymbolsCode.{Copying}
use Prim.Native.Nat.{◌-◌}
use Rattle.appending.proofs.symbols.put_symbols.Given as goal

abbrev pub invariant-loop-x : goal.invariant-loop-x
invariant-loop-x l = Copying l.tape l.initial.work l.round.g l.round.n l.round.lim l.p l.k l.initial.x.run.out l.work l.x

abbrev pub decreases-loop-x : goal.decreases-loop-x
decreases-loop-x l = l.round.g.end - l.x.run.at
