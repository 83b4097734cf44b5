use Rattle.macro_expand.proofs.BeginCode.{heading}
use Rattle.macro_expand.proofs.begin.put_head.Goals as goal

pub returns : goal.returns
returns c = search heading
