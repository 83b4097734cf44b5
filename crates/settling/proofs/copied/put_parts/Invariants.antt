use Prim.Native.Nat.{◌-◌}
use Rattle.settling.proofs.CopiedLoop.{Going}
use Rattle.settling.proofs.copied.put_parts.Given as goal

abbrev pub invariant-loop-i : goal.invariant-loop-i
invariant-loop-i l = Going l.tape l.initial.work l.x l.n l.left l.p l.c l.to l.work l.a (l.n - l.i) l.i l.q
