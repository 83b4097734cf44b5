use Rattle.display.proofs.SinkCode.{marking}
use Rattle.display.proofs.sink.mark.Goals as goal

pub returns-in-42 : goal.returns-in-42
returns-in-42 g c = search marking

pub returns-in-43 : goal.returns-in-43
returns-in-43 g c = search marking

pub returns-in_default : goal.returns-in_default
returns-in_default g c = search marking
