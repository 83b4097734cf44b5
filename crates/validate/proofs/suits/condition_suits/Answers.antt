use Rattle.validate.proofs.SuitsCode.{parts}
use Rattle.validate.proofs.suits.condition_suits.Goals as goal

pub returns-then-is_fit : goal.returns-then-is_fit
returns-then-is_fit c = search parts

pub returns-else-is_fit : goal.returns-else-is_fit
returns-else-is_fit c = search parts
