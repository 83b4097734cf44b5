use Rattle.display.proofs.MeetCode.{meeting}
use Rattle.display.proofs.follow.meet.Goals as goal

pub loop-b-preserved : goal.loop-b-preserved
loop-b-preserved c = search (meeting, c.in_ok-p.was)

pub returns-in_err-p : goal.returns-in_err-p
returns-in_err-p c = rw c.from_residual.ensures (search (meeting, c.in_err-p.was))

pub returns : goal.returns
returns c = search meeting
