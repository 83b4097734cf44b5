use Rattle.settling.proofs.WordsCode.{enclosing}
use Rattle.settling.proofs.words.put_quoted.Goals as goal

pub returns : goal.returns
returns c = search enclosing
