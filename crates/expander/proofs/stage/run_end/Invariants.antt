use Rattle.expander.specs.Stage.{Copies}
use Prim.Native.Nat.{◌-◌}
use Rattle.expander.proofs.stage.run_end.Given as goal

abbrev pub invariant-loop-q : goal.invariant-loop-q
invariant-loop-q l = Copies l.tape l.work l.g l.p l.q

abbrev pub decreases-loop-q : goal.decreases-loop-q
decreases-loop-q l = l.end - l.q
