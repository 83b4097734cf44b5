use Rattle.appending.proofs.CommandsCode.{storing_item}
use Rattle.appending.proofs.commands.store_item.Goals as goal

pub returns : goal.returns
returns c = search storing_item
