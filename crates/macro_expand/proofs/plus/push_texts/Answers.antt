use Rattle.macro_expand.proofs.PushCode.{push-naming}
use Rattle.macro_expand.proofs.plus.push_texts.Goals as goal

pub returns : goal.returns
returns c = search push-naming
