use Rattle.appending.proofs.CommandsCode.{storing_name}
use Rattle.appending.proofs.commands.store_name.Goals as goal

pub returns : goal.returns
returns c = search storing_name
