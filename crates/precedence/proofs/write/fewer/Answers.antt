use Rattle.precedence.proofs.WriteWholeCode.{lessening}
use Rattle.precedence.proofs.write.fewer.Goals as goal

pub returns-in-Some : goal.returns-in-Some
returns-in-Some c = search lessening

pub returns-in-None : goal.returns-in-None
returns-in-None c = search lessening
