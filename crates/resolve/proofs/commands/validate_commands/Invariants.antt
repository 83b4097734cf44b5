use Rattle.resolve.proofs.CommandsCode.{Running}
use Prim.Native.Nat.{◌-◌}
use Rattle.resolve.proofs.commands.validate_commands.Given as goal

abbrev pub invariant-loop-p : goal.invariant-loop-p
invariant-loop-p l = Running l.s.texts l.s.grammar.width.bytes l.e l.at l.initial.work l.work l.p

abbrev pub decreases-loop-p : goal.decreases-loop-p
decreases-loop-p l = l.e - l.p
