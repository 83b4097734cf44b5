use Rattle.display.proofs.SinkCode.{leafing}
use Rattle.display.proofs.sink.leaf.Goals as goal

pub returns-in-34 : goal.returns-in-34
returns-in-34 g c = search leafing

pub returns-in-35 : goal.returns-in-35
returns-in-35 g c = search leafing

pub returns-in_default : goal.returns-in_default
returns-in_default g c = search leafing
