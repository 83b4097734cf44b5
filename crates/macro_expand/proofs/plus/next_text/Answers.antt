use Rattle.macro_expand.proofs.PushCode.{Going-on}
use Rattle.macro_expand.proofs.plus.next_text.Goals as goal

pub returns : goal.returns
returns c = search Going-on
