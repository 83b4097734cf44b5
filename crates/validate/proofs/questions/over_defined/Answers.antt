use Rattle.parse_tree.specs.Working.Questions.{symbol_defined}
use Rattle.validate.proofs.QuestionsCode.{symbols}
use Rattle.validate.proofs.questions.over_defined.Goals as goal

pub returns-then-n-atoms : goal.returns-then-n-atoms
returns-then-n-atoms c = search symbols

pub returns-else-n-atoms : goal.returns-else-n-atoms
unfolding symbol_defined
returns-else-n-atoms c = search symbols

pub returns-in-Group : goal.returns-in-Group
returns-in-Group c = search symbols
