use Rattle.display.proofs.SinkCode.{naming}
use Rattle.display.proofs.sink.label.Goals as goal

pub returns-then-b-eq1 : goal.returns-then-b-eq1
returns-then-b-eq1 g c = search naming

pub returns-else-b-eq1 : goal.returns-else-b-eq1
returns-else-b-eq1 g c = search naming
