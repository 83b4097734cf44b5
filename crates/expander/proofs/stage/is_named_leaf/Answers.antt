use Rattle.expander.proofs.StageRunCode.{naming}
use Rattle.expander.proofs.stage.is_named_leaf.Goals as goal

pub returns-in-32-to-36 : goal.returns-in-32-to-36
returns-in-32-to-36 c = search naming

pub returns-in_default : goal.returns-in_default
returns-in_default c = search naming

pub returns-in_default-2 : goal.returns-in_default-2
returns-in_default-2 c = search naming
