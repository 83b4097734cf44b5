use Rattle.validate.proofs.QuickItemsCode.{quick_command}
use Rattle.validate.proofs.quick.quick_attribute.Goals as goal

pub returns : goal.returns
returns c = search quick_command
