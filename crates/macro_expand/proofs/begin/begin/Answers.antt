use Rattle.macro_expand.proofs.BeginCode.{beginning}
use Rattle.macro_expand.proofs.begin.begin.Goals as goal

pub returns : goal.returns
returns c = search beginning
