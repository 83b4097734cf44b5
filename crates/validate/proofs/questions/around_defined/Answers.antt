use Rattle.validate.proofs.QuestionsCode.{symbols}
use Rattle.validate.proofs.questions.around_defined.Goals as goal

pub returns-in-Repeat : goal.returns-in-Repeat
returns-in-Repeat c = search symbols

pub returns-in-Choose : goal.returns-in-Choose
returns-in-Choose c = search symbols

pub returns-then-m-le1 : goal.returns-then-m-le1
returns-then-m-le1 c = search symbols

pub returns-else-m-le1 : goal.returns-else-m-le1
returns-else-m-le1 c = search symbols
