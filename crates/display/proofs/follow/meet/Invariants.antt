use Rattle.display.proofs.MeetCode.{Meeting}
use Rattle.display.proofs.follow.meet.Given as goal

abbrev pub invariant-loop-b : goal.invariant-loop-b
invariant-loop-b l = Meeting l.t l.x l.i l.p l.b-index
