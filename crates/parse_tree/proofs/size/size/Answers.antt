use Rattle.parse_tree.proofs.SizeLaws.{sizing}
use Rattle.parse_tree.proofs.size.size.Goals as goal

pub returns-in-Text : goal.returns-in-Text
returns-in-Text c = search sizing

pub returns-in-Nonterminal : goal.returns-in-Nonterminal
returns-in-Nonterminal c = search sizing

pub returns-in-Terminal : goal.returns-in-Terminal
returns-in-Terminal c = search sizing

pub returns-in-Argument : goal.returns-in-Argument
returns-in-Argument c = search sizing

pub returns-in-Alternative : goal.returns-in-Alternative
returns-in-Alternative c = search sizing

pub returns-in-Attribute : goal.returns-in-Attribute
returns-in-Attribute c = search sizing

pub returns-in-Condition : goal.returns-in-Condition
returns-in-Condition c = search sizing

pub returns-in-Leaf : goal.returns-in-Leaf
returns-in-Leaf c = search sizing

pub returns-in-Repeat : goal.returns-in-Repeat
returns-in-Repeat c = search sizing

pub returns-in-Choose : goal.returns-in-Choose
returns-in-Choose c = search sizing

pub returns-in-Name : goal.returns-in-Name
returns-in-Name c = search sizing

pub returns-in-Macro : goal.returns-in-Macro
returns-in-Macro c = search sizing

pub returns-in-Group : goal.returns-in-Group
returns-in-Group c = search sizing

pub returns-in_default : goal.returns-in_default
returns-in_default c = search sizing
