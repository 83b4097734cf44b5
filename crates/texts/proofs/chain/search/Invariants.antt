use Rattle.texts.proofs.SearchCode.{Asking}
use Rattle.texts.proofs.chain.search.Given as goal

abbrev pub invariant-loop-i : goal.invariant-loop-i
invariant-loop-i g l = Asking (goal.F-post g l.fn.is) l.work l.fn.m.base l.fn.m.buckets l.fn.h l.fn.m.count l.j

abbrev pub decreases-loop-i : goal.decreases-loop-i
decreases-loop-i g l = l.j
