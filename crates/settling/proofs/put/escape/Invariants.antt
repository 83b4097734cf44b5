use Rattle.settling.proofs.PutCode.{Telling}
use Rattle.settling.proofs.put.escape.Given as goal

abbrev pub invariant-loop-i : goal.invariant-loop-i
invariant-loop-i g l = Telling (λ x. x.now) (goal.F-post g l.byte) l.initial.work l.a l.e l.lim l.to l.work l.i l.q
