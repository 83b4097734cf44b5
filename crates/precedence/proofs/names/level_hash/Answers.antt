use Rattle.precedence.proofs.NamesHashCode.{leveling}
use Rattle.precedence.proofs.names.level_hash.Goals as goal

pub returns : goal.returns
returns c = search leveling
