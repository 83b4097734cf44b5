use Rattle.expander.proofs.ReplaceCode.{expanding}
use Rattle.expander.proofs.replace.is_expanded.Goals as goal

pub returns-in-37-to-38 : goal.returns-in-37-to-38
returns-in-37-to-38 c = search expanding

pub returns-in-37-to-38-2 : goal.returns-in-37-to-38-2
returns-in-37-to-38-2 c = search expanding

pub returns-in_default : goal.returns-in_default
returns-in_default c = search expanding

pub returns-in_default-2 : goal.returns-in_default-2
returns-in_default-2 c = search expanding

pub returns-in_default-3 : goal.returns-in_default-3
returns-in_default-3 c = search expanding
