use Rattle.validate.proofs.PassesCode.{passing}
use Rattle.validate.proofs.quick.passes.Goals as goal

pub returns-in-0-to-36 : goal.returns-in-0-to-36
returns-in-0-to-36 c = search passing

pub returns-else-r-at-lt1 : goal.returns-else-r-at-lt1
returns-else-r-at-lt1 c = search passing

pub returns-in-38 : goal.returns-in-38
returns-in-38 c = search (passing, c.in-38.is)

pub returns-else-r-at-gt1 : goal.returns-else-r-at-gt1
returns-else-r-at-gt1 c = search passing

pub returns-in-41 : goal.returns-in-41
returns-in-41 c = search (passing, c.in-41.is)

pub returns-in_default : goal.returns-in_default
returns-in_default c = search passing
