use Rattle.resolve.proofs.GlobalsCode.{EachLeft}
use Rattle.resolve.proofs.globals.declare_each.Given as goal

abbrev pub invariant-loop-i : goal.invariant-loop-i
invariant-loop-i l = EachLeft l.s.texts l.s.grammar l.which l.initial.work l.work l.i
