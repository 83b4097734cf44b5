use Prim.Native.Nat.{◌-◌}
use Rattle.macro_expand.proofs.AnalyzeCode.{Analyzing}
use Rattle.macro_expand.proofs.norm_util.analyze_expr.Given as goal

abbrev pub invariant-loop : goal.invariant-loop
invariant-loop l = Analyzing l.tape l.work l.fn.g l.p l.k l.at (l.k - l.counter) l.chosen
