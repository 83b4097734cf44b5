use Rattle.parse_tree.proofs.CodeSizes.{coding}
use Rattle.parse_tree.proofs.size.size_by_code.Goals as goal

pub returns-in-16 : goal.returns-in-16
returns-in-16 c = search coding

pub returns-in-17 : goal.returns-in-17
returns-in-17 c = search coding

pub returns-in-48 : goal.returns-in-48
returns-in-48 c = search coding

pub returns-in_default : goal.returns-in_default
returns-in_default c = search coding
