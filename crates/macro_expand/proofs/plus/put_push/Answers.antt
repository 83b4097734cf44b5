use Rattle.macro_expand.proofs.PushCode.{push-putting}
use Rattle.macro_expand.proofs.plus.put_push.Goals as goal

pub returns : goal.returns
returns c = search push-putting
