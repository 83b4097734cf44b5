use Rattle.display.proofs.FormCode.{joining}
use Rattle.display.proofs.forms.stopped.Goals as goal

pub returns : goal.returns
returns c = search joining
