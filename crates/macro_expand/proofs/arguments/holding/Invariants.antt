use Prim.Native.Nat.{◌-◌}
use Rattle.macro_expand.proofs.ArgumentsCode.{Holds}
use Rattle.macro_expand.proofs.arguments.holding.Given as goal

abbrev pub invariant-loop : goal.invariant-loop
invariant-loop l = Holds l.x.g l.x.call l.x.work.now l.n l.at (l.n - l.counter) l.p l.k
