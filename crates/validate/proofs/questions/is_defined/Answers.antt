use Rattle.parse_tree.specs.Working.Questions.{defined}
use Rattle.validate.proofs.QuestionsCode.{nodes}
use Rattle.validate.proofs.questions.is_defined.Goals as goal

pub returns-in-Text : goal.returns-in-Text
returns-in-Text c = search nodes

pub returns-in-Terminal : goal.returns-in-Terminal
returns-in-Terminal c = search nodes

pub returns-in-Argument : goal.returns-in-Argument
returns-in-Argument c = search nodes

pub returns-in-Alternative : goal.returns-in-Alternative
returns-in-Alternative c = search nodes

pub returns-in-Attribute : goal.returns-in-Attribute
returns-in-Attribute c = search nodes

pub returns-in-Symbol : goal.returns-in-Symbol
returns-in-Symbol c = search nodes

pub returns-then-d-atoms : goal.returns-then-d-atoms
returns-then-d-atoms c = search nodes

pub returns-else-d-atoms : goal.returns-else-d-atoms
unfolding defined
returns-else-d-atoms c = search nodes

pub returns-in_default : goal.returns-in_default
returns-in_default c = search nodes
