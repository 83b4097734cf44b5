use Prim.Native.Nat.{◌-◌}
use mathlib.Core.Path.{◌≡◌}
use Rattle.validate.specs.Front.{Going}
use lib.ListN.{length}
use Rattle.validate.proofs.front.atoms.Given as goal

abbrev pub invariant-loop-at : goal.invariant-loop-at
invariant-loop-at l = Going l.tape l.work l.m l.at l.end l.count × (length l.work ≡ length l.initial.work)

abbrev pub decreases-loop-at : goal.decreases-loop-at
decreases-loop-at l = l.end - l.at
