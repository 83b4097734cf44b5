use Rattle.levels.proofs.SmallCode.{sorting_keys}
use Rattle.levels.proofs.expand.sorted.Goals as goal

pub returns-then-ascending : goal.returns-then-ascending
returns-then-ascending c = search sorting_keys

pub returns-else-ascending : goal.returns-else-ascending
returns-else-ascending c = search sorting_keys
