use Rattle.display.proofs.SinkCode.{escaping}
use Rattle.display.proofs.sink.escape.Goals as goal

pub returns-then-b-eq92 : goal.returns-then-b-eq92
returns-then-b-eq92 g c = search escaping

pub returns-else-b-eq92 : goal.returns-else-b-eq92
returns-else-b-eq92 g c = search escaping
