use Rattle.validate.proofs.PassesCode.{naming}
use Rattle.validate.proofs.quick.is_used.Goals as goal

pub returns-then-not-r : goal.returns-then-not-r
returns-then-not-r c = search naming

pub returns-else-not-r : goal.returns-else-not-r
returns-else-not-r c = search naming
