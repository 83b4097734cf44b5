use Rattle.precedence.proofs.WriteCode.{storing}
use Rattle.precedence.proofs.write.store_command.Goals as goal

pub returns : goal.returns
returns c = search storing
