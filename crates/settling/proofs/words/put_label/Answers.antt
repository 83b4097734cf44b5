use Rattle.settling.proofs.WordsCode.{labelling}
use Rattle.settling.proofs.words.put_label.Goals as goal

pub returns-then-b-eq1 : goal.returns-then-b-eq1
returns-then-b-eq1 c = search labelling

pub returns-else-b-eq1 : goal.returns-else-b-eq1
returns-else-b-eq1 c = search labelling
