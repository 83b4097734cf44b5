use Prim.Native.Nat.{◌-◌}
use Rattle.levels.proofs.LevelsCode.{Looped}
use Rattle.levels.proofs.expand.write_levels.Given as goal

abbrev pub invariant-loop-i : goal.invariant-loop-i
invariant-loop-i l = Looped l.tape l.g.m l.g.room l.g.width.bytes l.g.ids l.a.p l.a.e l.a.places l.a.keys l.a.n l.initial.i l.initial.below l.initial.v l.initial.work l.i l.below l.v l.work

abbrev pub decreases-loop-i : goal.decreases-loop-i
decreases-loop-i l = l.a.n - l.i
