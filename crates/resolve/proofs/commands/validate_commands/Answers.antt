use Rattle.resolve.proofs.CommandsCode.{running}
use Rattle.resolve.proofs.commands.validate_commands.Goals as goal

pub loop-p-init : goal.loop-p-init
loop-p-init c = search running

pub returns-in-Err : goal.returns-in-Err
returns-in-Err c = search running

pub loop-p-preserved-in-Ok-None : goal.loop-p-preserved-in-Ok-None
loop-p-preserved-in-Ok-None c = search running

pub loop-p-preserved : goal.loop-p-preserved
loop-p-preserved c = search running

pub returns : goal.returns
returns c = search running
