use Rattle.validate.proofs.SuitsCode.{parts}
use Rattle.validate.proofs.suits.alternative_suits.Goals as goal

pub returns-in-1 : goal.returns-in-1
returns-in-1 c = search parts

pub returns-in_default : goal.returns-in_default
returns-in_default c = search parts

pub returns-in_default-2 : goal.returns-in_default-2
returns-in_default-2 c = search parts
