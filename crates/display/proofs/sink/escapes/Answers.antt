use Rattle.display.proofs.SinkCode.{passing}
use Rattle.display.proofs.sink.escapes.Goals as goal

pub escape-requires : goal.escape-requires
escape-requires g c = search passing

pub loop-b-init : goal.loop-b-init
loop-b-init g c = search passing

pub loop-b-preserved : goal.loop-b-preserved
loop-b-preserved g c = search passing

pub returns : goal.returns
returns g c = search passing
