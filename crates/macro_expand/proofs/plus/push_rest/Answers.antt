use Rattle.macro_expand.proofs.PushCode.{push-resting}
use Rattle.macro_expand.proofs.plus.push_rest.Goals as goal

pub put_symbols-x-requires : goal.put_symbols-x-requires
put_symbols-x-requires c = search push-resting

pub returns : goal.returns
returns c = search push-resting
