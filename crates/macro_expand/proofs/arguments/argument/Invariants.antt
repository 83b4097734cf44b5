use Prim.Native.Nat.{◌-◌}
use Rattle.macro_expand.proofs.ArgumentsCode.{Looking}
use Rattle.macro_expand.proofs.arguments.argument.Given as goal

abbrev pub invariant-loop : goal.invariant-loop
invariant-loop l = Looking l.x.g l.x.work.now l.k l.size l.fn.x.call.many l.initial.a l.initial.p (l.fn.x.call.many - l.counter) l.a l.p
