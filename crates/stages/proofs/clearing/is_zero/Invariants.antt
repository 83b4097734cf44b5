use Rattle.std.proofs.Common.{◌≡◌, ◌↔◌}
use Rattle.stages.specs.Clearing.{Zeros}
use Rattle.stages.proofs.clearing.is_zero.Given as goal

abbrev pub invariant-loop-i : goal.invariant-loop-i
invariant-loop-i l = (l.most ≡ 0) ↔ Zeros l.work l.from l.i
