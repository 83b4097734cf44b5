use Rattle.settling.proofs.CountCode.{Counting}
use Rattle.settling.proofs.settle.count_texts.Given as goal

abbrev pub invariant-loop-i : goal.invariant-loop-i
invariant-loop-i l = Counting l.tape l.work l.g l.n l.c l.i l.bytes
