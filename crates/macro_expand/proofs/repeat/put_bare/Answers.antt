use Rattle.macro_expand.proofs.RepeatCode.{putting_bare}
use Rattle.macro_expand.proofs.repeat.put_bare.Goals as goal

pub returns : goal.returns
returns c = search putting_bare
