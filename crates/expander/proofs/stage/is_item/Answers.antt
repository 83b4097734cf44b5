use Rattle.expander.proofs.StageCode.{beginning}
use Rattle.expander.proofs.stage.is_item.Goals as goal

pub returns-in-16 : goal.returns-in-16
returns-in-16 c = search beginning

pub returns-in-16-2 : goal.returns-in-16-2
returns-in-16-2 c = search beginning

pub returns-in_default : goal.returns-in_default
returns-in_default c = search beginning

pub returns-in_default-2 : goal.returns-in_default-2
returns-in_default-2 c = search beginning
