use Rattle.validate.proofs.QuestionsCode.{alternatives}
use Rattle.validate.proofs.questions.alternative_defined.Goals as goal

pub returns-then-a-gt1 : goal.returns-then-a-gt1
returns-then-a-gt1 c = search alternatives

pub returns-in-1 : goal.returns-in-1
returns-in-1 c = search alternatives

pub returns-in-0 : goal.returns-in-0
returns-in-0 c = search alternatives

pub returns-in_default : goal.returns-in_default
returns-in_default c = search alternatives
