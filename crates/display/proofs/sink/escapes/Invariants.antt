use Rattle.display.proofs.SinkCode.{Escaping}
use Rattle.display.proofs.sink.escapes.Given as goal

abbrev pub invariant-loop-b : goal.invariant-loop-b
invariant-loop-b g l = Escaping g.S.Sink.more l.initial.s l.x l.s l.b-index
