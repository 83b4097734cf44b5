use Rattle.macro_expand.proofs.PutInCode.{wrapped}
use Rattle.macro_expand.proofs.put_in.wraps.Goals as goal

pub returns-in-39 : goal.returns-in-39
returns-in-39 c = search wrapped

pub returns-in_default-2 : goal.returns-in_default-2
returns-in_default-2 c = search wrapped

pub returns-in_default : goal.returns-in_default
returns-in_default c = search wrapped
