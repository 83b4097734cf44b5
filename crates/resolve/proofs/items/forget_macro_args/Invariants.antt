use Prim.Native.Nat.{◌+◌, ◌-◌, ◌*◌}
use Rattle.resolve.proofs.ItemsCode.{UnmarksLeft}
use Rattle.resolve.proofs.items.forget_macro_args.Given as goal

abbrev pub invariant-loop-k : goal.invariant-loop-k
invariant-loop-k l = UnmarksLeft l.s.texts l.s.grammar.width.bytes l.n l.at l.initial.work l.work (l.at + l.k * (1 + l.s.grammar.width.bytes)) (l.n - l.k)
