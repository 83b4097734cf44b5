use Rattle.settling.proofs.WordsCode.{labelling}
use Rattle.settling.proofs.words.put_name.Goals as goal

pub returns : goal.returns
returns c = search labelling
