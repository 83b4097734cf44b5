use Rattle.display.proofs.FormCode.{powering}
use Rattle.display.proofs.forms.power_of.Goals as goal

pub loop-k-init : goal.loop-k-init
loop-k-init c = search powering

pub loop-k-preserved : goal.loop-k-preserved
loop-k-preserved c = search powering

pub returns : goal.returns
returns c = search powering
