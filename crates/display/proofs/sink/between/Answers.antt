use Rattle.display.proofs.SinkCode.{separating}
use Rattle.display.proofs.sink.between.Goals as goal

pub returns-then-c-eq37 : goal.returns-then-c-eq37
returns-then-c-eq37 g c = search separating

pub returns-else-c-eq37 : goal.returns-else-c-eq37
returns-else-c-eq37 g c = search separating

pub returns-else-k-ne0 : goal.returns-else-k-ne0
returns-else-k-ne0 g c = search separating
