use Prim.Native.Nat.{◌-◌}
use Rattle.macro_expand.proofs.AlternativesListCode.{Adding}
use Rattle.macro_expand.proofs.alternatives.expand_alternatives.Given as goal

abbrev pub invariant-loop : goal.invariant-loop
invariant-loop l = Adding l.tape l.initial.work l.c.round.g l.c.round.n l.c.round.lim l.c.call l.c.span l.k l.at l.initial.r l.work (l.k - l.counter) l.p l.r
