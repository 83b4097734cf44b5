use Rattle.display.proofs.SinkCode.{closing}
use Rattle.display.proofs.sink.behind.Goals as goal

pub bounds-work-at : goal.bounds-work-at
bounds-work-at g c = search closing

pub returns-in-37 : goal.returns-in-37
returns-in-37 g c = search closing

pub returns-in-38 : goal.returns-in-38
returns-in-38 g c = search closing

pub returns-in-39 : goal.returns-in-39
returns-in-39 g c = search closing

pub returns-in-41 : goal.returns-in-41
returns-in-41 g c = search closing

pub returns-in_default : goal.returns-in_default
returns-in_default g c = search closing
