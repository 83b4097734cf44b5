use Rattle.settling.proofs.WordsCode.{enclosing}
use Rattle.settling.proofs.words.put_open.Goals as goal

pub returns : goal.returns
returns c = search enclosing
