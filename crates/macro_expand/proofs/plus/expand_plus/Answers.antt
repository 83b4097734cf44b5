use Rattle.macro_expand.proofs.PushCode.{plussing}
use Rattle.macro_expand.proofs.plus.expand_plus.Goals as goal

pub returns : goal.returns
returns c = search plussing

pub overflow_add-q : goal.overflow_add-q
overflow_add-q c = search plussing
