use Rattle.validate.proofs.QuickCode.{quickly}
use Rattle.validate.proofs.quick.quick.Goals as goal

pub returns : goal.returns
returns c = search quickly
