use Rattle.settling.proofs.WordsCode.{leafing}
use Rattle.settling.proofs.words.put_leaf.Goals as goal

pub returns-in-34 : goal.returns-in-34
returns-in-34 c = search leafing

pub returns-in-35 : goal.returns-in-35
returns-in-35 c = search leafing

pub returns-in_default : goal.returns-in_default
returns-in_default c = search leafing
