use Prim.Native.Nat.{◌-◌}
use Rattle.precedence.proofs.SubstituteCode.{Replacing}
use Rattle.precedence.proofs.substitute.replace_symbols.Given as goal

abbrev pub invariant-loop-p : goal.invariant-loop-p
invariant-loop-p l = Replacing l.width.bytes l.target l.rest l.e l.at l.initial.work l.work l.p l.m

abbrev pub decreases-loop-p : goal.decreases-loop-p
decreases-loop-p l = l.e - l.p
