use Rattle.display.proofs.WindowCode.{running}
use Rattle.display.proofs.emit.emit_run.Goals as goal

pub returns-then-n-p : goal.returns-then-n-p
returns-then-n-p c = search running

pub loop-b-preserved : goal.loop-b-preserved
loop-b-preserved c = search running

pub returns : goal.returns
returns c = search running
