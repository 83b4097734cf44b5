use Rattle.expander.proofs.MeetCode.{knowing}
use Rattle.expander.proofs.meet.known.Goals as goal

pub returns-then-not-is_expanded : goal.returns-then-not-is_expanded
returns-then-not-is_expanded c = search knowing

pub returns-in-Text : goal.returns-in-Text
returns-in-Text c = search knowing

pub returns-in_default : goal.returns-in_default
returns-in_default c = search knowing

pub returns-in_default-2 : goal.returns-in_default-2
returns-in_default-2 c = search knowing
