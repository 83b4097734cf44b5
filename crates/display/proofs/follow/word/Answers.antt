use Rattle.display.proofs.MeetCode.{wording}
use Rattle.display.proofs.follow.word.Goals as goal

pub returns : goal.returns
returns c = search wording
