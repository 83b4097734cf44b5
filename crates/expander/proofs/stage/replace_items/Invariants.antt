use Prim.Native.Nat.{◌-◌}
use Rattle.expander.proofs.StageLoopCode.{Staging}
use Rattle.expander.proofs.stage.replace_items.Given as goal

abbrev pub invariant-loop-r : goal.invariant-loop-r
invariant-loop-r l = Staging l.tape l.initial.work l.g l.to l.work l.r

abbrev pub decreases-loop-r : goal.decreases-loop-r
decreases-loop-r l = l.end - l.r.at
