use Rattle.display.proofs.FormCode.{joining}
use Rattle.display.proofs.forms.whole.Goals as goal

pub returns : goal.returns
returns c = search joining
