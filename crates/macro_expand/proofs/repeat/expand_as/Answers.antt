use Rattle.macro_expand.proofs.ChoiceCode.{choosing_as}
use Rattle.macro_expand.proofs.repeat.expand_as.Goals as goal

pub returns-in-0 : goal.returns-in-0
returns-in-0 c = search choosing_as

pub returns-in-1 : goal.returns-in-1
returns-in-1 c = search choosing_as

pub returns-in_default : goal.returns-in_default
returns-in_default c = search choosing_as
