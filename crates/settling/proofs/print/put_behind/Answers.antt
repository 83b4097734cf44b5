use Rattle.settling.proofs.PrintCode.{closing}
use Rattle.settling.proofs.print.put_behind.Goals as goal

pub returns-in-37 : goal.returns-in-37
returns-in-37 c = search closing

pub bounds-work-at : goal.bounds-work-at
bounds-work-at c = search closing

pub returns-in-38 : goal.returns-in-38
returns-in-38 c = search closing

pub returns-in-41 : goal.returns-in-41
returns-in-41 c = search closing

pub returns-in_default : goal.returns-in_default
returns-in_default c = search closing
