use Rattle.display.proofs.FormCode.{forming}
use Rattle.display.proofs.forms.snoc.Goals as goal

pub overflow_add-f : goal.overflow_add-f
overflow_add-f c = search forming

pub returns : goal.returns
returns c = search forming
