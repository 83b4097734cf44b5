use Rattle.macro_expand.proofs.PushCode.{push-second}
use Rattle.macro_expand.proofs.plus.put_second.Goals as goal

pub returns : goal.returns
returns c = search push-second
