use Rattle.levels.proofs.FreshCode.{Counting}
use Rattle.levels.proofs.fresh.count_bytes.Given as goal

abbrev pub invariant-loop-k : goal.invariant-loop-k
invariant-loop-k l = Counting l.tape l.work l.fn.m l.n l.k l.bytes l.too_long
