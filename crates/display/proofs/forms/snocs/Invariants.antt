use Rattle.display.proofs.FormCode.{Passing}
use Rattle.display.proofs.forms.snocs.Given as goal

abbrev pub invariant-loop-b : goal.invariant-loop-b
invariant-loop-b l = Passing l.initial.g l.t l.g l.b-index
