use Rattle.macro_expand.proofs.PushedCode.{defining}
use Rattle.macro_expand.proofs.drain.definition.Goals as goal

pub returns : goal.returns
returns c = search defining
