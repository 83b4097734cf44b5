use Rattle.display.proofs.MeetCode.{byting}
use Rattle.display.proofs.follow.meet_byte.Goals as goal

pub returns-then-t-i : goal.returns-then-t-i
returns-then-t-i c = search byting

pub returns-else-i-t : goal.returns-else-i-t
returns-else-i-t c = search byting
