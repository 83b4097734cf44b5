use Rattle.octets.proofs.RunsCopyCode.{copying_inside}
use Rattle.precedence.proofs.write.copy_long.Goals as goal

pub loop-i-init : goal.loop-i-init
loop-i-init c = search copying_inside

pub loop-i-preserved : goal.loop-i-preserved
loop-i-preserved c = search copying_inside

pub returns : goal.returns
returns c = search copying_inside
