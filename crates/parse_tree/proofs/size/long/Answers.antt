use Rattle.parse_tree.proofs.CodeSizes.{lengthening}
use Rattle.parse_tree.proofs.size.long.Goals as goal

pub returns-in-18 : goal.returns-in-18
returns-in-18 c = search lengthening

pub returns-in-19 : goal.returns-in-19
returns-in-19 c = search lengthening

pub returns-in-20 : goal.returns-in-20
returns-in-20 c = search lengthening

pub returns-in-32 : goal.returns-in-32
returns-in-32 c = search lengthening

pub returns-in-33 : goal.returns-in-33
returns-in-33 c = search lengthening

pub returns-in-34 : goal.returns-in-34
returns-in-34 c = search lengthening

pub returns-in-35 : goal.returns-in-35
returns-in-35 c = search lengthening

pub returns-in-36 : goal.returns-in-36
returns-in-36 c = search lengthening

pub returns-in-37 : goal.returns-in-37
returns-in-37 c = search lengthening

pub returns-in-38 : goal.returns-in-38
returns-in-38 c = search lengthening

pub returns-in-41 : goal.returns-in-41
returns-in-41 c = search lengthening

pub returns-in_default : goal.returns-in_default
returns-in_default c = search lengthening
