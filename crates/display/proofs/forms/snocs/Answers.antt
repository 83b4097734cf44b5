use Rattle.display.proofs.FormCode.{following}
use Rattle.display.proofs.forms.snocs.Goals as goal

pub loop-b-preserved : goal.loop-b-preserved
loop-b-preserved c = search following

pub returns : goal.returns
returns c = search following
