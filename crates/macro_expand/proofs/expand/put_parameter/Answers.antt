use Rattle.macro_expand.proofs.ExpandCode.{giving_way}
use Rattle.macro_expand.proofs.expand.put_parameter.Goals as goal

pub put_argument-out-requires : goal.put_argument-out-requires
put_argument-out-requires c = search giving_way

pub returns : goal.returns
returns c = search giving_way
