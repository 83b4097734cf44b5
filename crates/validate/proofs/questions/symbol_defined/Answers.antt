use Rattle.validate.proofs.QuestionsCode.{symbols}
use Rattle.validate.proofs.questions.symbol_defined.Goals as goal

pub returns-in-Leaf : goal.returns-in-Leaf
returns-in-Leaf c = search symbols
