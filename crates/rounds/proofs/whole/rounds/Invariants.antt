use Prim.Native.Nat.{◌-◌}
use Rattle.rounds.proofs.RoundsCode.{Turning}
use Rattle.rounds.proofs.whole.rounds.Given as goal

abbrev pub invariant-loop-at : goal.invariant-loop-at
invariant-loop-at l = Turning l.tape l.initial.at.room l.initial.at.t l.initial.work l.initial.at.z l.limit l.work l.at

abbrev pub decreases-loop-at : goal.decreases-loop-at
decreases-loop-at l = l.limit - l.at.z.expander.round
