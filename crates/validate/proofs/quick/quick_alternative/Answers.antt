use Rattle.validate.proofs.QuickItemsCode.{quick_parts}
use Rattle.validate.proofs.quick.quick_alternative.Goals as goal

pub returns : goal.returns
returns c = search quick_parts
