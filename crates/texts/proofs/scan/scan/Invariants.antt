use Rattle.texts.proofs.ScanCode.{Scanning}
use Rattle.texts.proofs.scan.scan.Given as goal

abbrev pub invariant-loop-b : goal.invariant-loop-b
invariant-loop-b l = Scanning l.t l.h l.m l.b-index
