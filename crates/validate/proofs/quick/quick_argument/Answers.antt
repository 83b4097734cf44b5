use Rattle.validate.proofs.QuickItemsCode.{quick_command}
use Rattle.validate.proofs.quick.quick_argument.Goals as goal

pub returns : goal.returns
returns c = search quick_command
