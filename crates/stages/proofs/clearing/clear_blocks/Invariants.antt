use Rattle.std.proofs.Common.{length, ◌-◌, ◌≡◌, ◌≤◌}
use Rattle.stages.specs.Clearing.{Zeros}
use Rattle.stages.proofs.clearing.clear_blocks.Given as goal

abbrev pub invariant-loop-p : goal.invariant-loop-p
invariant-loop-p l = record { long : length l.work ≡ length l.initial.work; inside : l.p ≤ length l.work; zeros : Zeros l.work 0 l.p }

abbrev pub decreases-loop-p : goal.decreases-loop-p
decreases-loop-p l = length l.work - l.p
