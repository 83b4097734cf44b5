use Rattle.grades.proofs.WordsCode.{wording}
use Rattle.grades.proofs.words.Words.text.Goals as goal

pub returns-then-k-self : goal.returns-then-k-self
returns-then-k-self c = search wording

pub returns-else-k-self : goal.returns-else-k-self
returns-else-k-self c = search wording
