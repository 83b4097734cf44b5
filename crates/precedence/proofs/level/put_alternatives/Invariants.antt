use Rattle.precedence.proofs.LevelKeysCode.{Levelling}
use Rattle.precedence.proofs.level.put_alternatives.Given as goal

abbrev pub invariant-loop-i : goal.invariant-loop-i
invariant-loop-i l = Levelling l.t.width.bytes l.t.ids l.t.places l.t.keys l.target l.l l.t.lim l.to l.initial.work l.work l.i l.q
