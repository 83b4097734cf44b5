use Prim.Native.Nat.{◌+◌, ◌*◌}
use Rattle.precedence.proofs.WriteCode.{Keeping}
use Rattle.precedence.proofs.write.put_attributes.Given as goal

abbrev pub invariant-loop-k : goal.invariant-loop-k
invariant-loop-k l = Keeping l.fn.width.bytes l.lim l.to l.initial.work l.at l.n l.f l.work (l.at + l.k * (2 + 3 * l.fn.width.bytes)) l.k l.q
