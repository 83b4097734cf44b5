use Rattle.settling.proofs.WordsCode.{leafing}
use Rattle.settling.proofs.words.put_regex.Goals as goal

pub returns : goal.returns
returns c = search leafing
