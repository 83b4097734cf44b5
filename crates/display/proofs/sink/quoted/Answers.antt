use Rattle.display.proofs.SinkCode.{quoting}
use Rattle.display.proofs.sink.quoted.Goals as goal

pub returns : goal.returns
returns g c = search quoting
