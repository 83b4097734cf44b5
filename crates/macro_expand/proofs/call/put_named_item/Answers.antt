use Rattle.macro_expand.proofs.CallCode.{heading}
use Rattle.macro_expand.proofs.call.put_named_item.Goals as goal

pub number-y-requires : goal.number-y-requires
number-y-requires c = search heading

pub returns : goal.returns
returns c = search heading
