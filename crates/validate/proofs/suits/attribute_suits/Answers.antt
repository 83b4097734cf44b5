use Rattle.validate.proofs.SuitsCode.{parts}
use Rattle.validate.proofs.suits.attribute_suits.Goals as goal

pub returns-then-not-is_fit : goal.returns-then-not-is_fit
returns-then-not-is_fit c = search parts

pub returns-then-a-ne1 : goal.returns-then-a-ne1
returns-then-a-ne1 c = search parts

pub returns-then-is_fit : goal.returns-then-is_fit
returns-then-is_fit c = search parts

pub returns-else-is_fit : goal.returns-else-is_fit
returns-else-is_fit c = search parts
