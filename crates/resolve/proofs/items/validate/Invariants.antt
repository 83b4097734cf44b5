use Rattle.resolve.proofs.ItemsCode.{ItemsLeft}
use Rattle.resolve.proofs.items.validate.Given as goal

abbrev pub invariant-loop-i : goal.invariant-loop-i
invariant-loop-i l = ItemsLeft l.s.texts l.s.grammar l.initial.work l.work l.i
