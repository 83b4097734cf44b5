use Rattle.validate.proofs.PassesCode.{passing_both}
use Rattle.validate.proofs.quick.attribute_passes.Goals as goal

pub returns-then-not-r : goal.returns-then-not-r
returns-then-not-r c = search passing_both

pub returns-else-not-r : goal.returns-else-not-r
returns-else-not-r c = search passing_both
