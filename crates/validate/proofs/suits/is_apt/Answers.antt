use Rattle.validate.proofs.SuitsCode.{apt}
use Rattle.validate.proofs.suits.is_apt.Goals as goal

pub returns-then-not-r : goal.returns-then-not-r
returns-then-not-r c = search apt

pub returns-else-not-r : goal.returns-else-not-r
returns-else-not-r c = search apt

pub returns-in_default : goal.returns-in_default
returns-in_default c = search apt
