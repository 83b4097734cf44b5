use Rattle.display.proofs.FormCode.{Powering}
use Rattle.display.proofs.forms.power_of.Given as goal

abbrev pub invariant-loop-k : goal.invariant-loop-k
invariant-loop-k l = Powering l.n l.r l.b l.k

abbrev pub decreases-loop-k : goal.decreases-loop-k
decreases-loop-k l = l.k
