use Rattle.validate.proofs.SuitsCode.{texts}
use Rattle.validate.proofs.suits.is_fit.Goals as goal

pub returns : goal.returns
returns c = search texts
