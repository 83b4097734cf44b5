use Rattle.validate.proofs.QuickItemsCode.{quick_terminal}
use Rattle.validate.proofs.quick.quick_terminal.Goals as goal

pub returns : goal.returns
returns c = search quick_terminal
