use Rattle.macro_expand.proofs.GroupCode.{acting}
use Rattle.macro_expand.proofs.group.group_action.Goals as goal

pub returns-in-0-eq1 : goal.returns-in-0-eq1
returns-in-0-eq1 c = search acting

pub returns-in_default : goal.returns-in_default
returns-in_default c = search acting

pub returns-in-0-eq1-2 : goal.returns-in-0-eq1-2
returns-in-0-eq1-2 c = search acting

pub returns-in_default-2 : goal.returns-in_default-2
returns-in_default-2 c = search acting
