use Prim.Native.Nat.{◌-◌}
use Rattle.expander.proofs.StageCode.{Hunting}
use Rattle.expander.proofs.stage.next_item.Given as goal

abbrev pub invariant-loop-q : goal.invariant-loop-q
invariant-loop-q l = Hunting l.work l.g l.p l.q

abbrev pub decreases-loop-q : goal.decreases-loop-q
decreases-loop-q l = l.end - l.q
