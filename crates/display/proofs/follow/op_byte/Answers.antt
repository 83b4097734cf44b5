use Rattle.display.proofs.MeetCode.{operating}
use Rattle.display.proofs.follow.op_byte.Goals as goal

pub returns-in-0 : goal.returns-in-0
returns-in-0 c = search operating

pub returns-in-1 : goal.returns-in-1
returns-in-1 c = search operating

pub returns-in_default : goal.returns-in_default
returns-in_default c = search operating
