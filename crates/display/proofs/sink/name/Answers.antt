use Rattle.display.proofs.SinkCode.{naming}
use Rattle.display.proofs.sink.name.Goals as goal

pub returns : goal.returns
returns g c = search naming
