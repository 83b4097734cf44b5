use Rattle.display.proofs.FormCode.{joining}
use Rattle.display.proofs.forms.join.Goals as goal

pub overflow_add-x : goal.overflow_add-x
overflow_add-x c = search joining

pub returns : goal.returns
returns c = search joining
