use Rattle.validate.proofs.QuestionsCode.{conditions}
use Rattle.validate.proofs.questions.condition_defined.Goals as goal

pub returns-then-c-le1 : goal.returns-then-c-le1
returns-then-c-le1 c = search conditions

pub returns-else-c-le1 : goal.returns-else-c-le1
returns-else-c-le1 c = search conditions
