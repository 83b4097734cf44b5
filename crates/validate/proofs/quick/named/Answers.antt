use Rattle.validate.proofs.PassesCode.{leafing}
use Rattle.validate.proofs.quick.named.Goals as goal

pub returns-in-34 : goal.returns-in-34
returns-in-34 c = search leafing

pub returns-in_default : goal.returns-in_default
returns-in_default c = search leafing
