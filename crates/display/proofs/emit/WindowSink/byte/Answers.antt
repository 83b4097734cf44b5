use Rattle.display.proofs.SinksLaws.{windowing}
use Rattle.display.proofs.emit.WindowSink.byte.Goals as goal

pub returns : goal.returns
returns c = search windowing
