use Rattle.validate.proofs.QuestionsCode.{attributes}
use Rattle.validate.proofs.questions.attribute_defined.Goals as goal

pub returns-then-atoms-a : goal.returns-then-atoms-a
returns-then-atoms-a c = search attributes

pub returns-then-a-eq0 : goal.returns-then-a-eq0
returns-then-a-eq0 c = search attributes

pub returns-else-a-eq0 : goal.returns-else-a-eq0
returns-else-a-eq0 c = search attributes

pub returns-then-a-atoms : goal.returns-then-a-atoms
returns-then-a-atoms c = search attributes

pub returns-else-a-atoms : goal.returns-else-a-atoms
returns-else-a-atoms c = search attributes

pub returns-in_default : goal.returns-in_default
returns-in_default c = search attributes
