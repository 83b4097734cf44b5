use Rattle.levels.proofs.SmallCode.{naming-level}
use Rattle.levels.proofs.expand.name_level.Goals as goal

pub returns-then-highest : goal.returns-then-highest
returns-then-highest c = search naming-level

pub returns-else-highest : goal.returns-else-highest
returns-else-highest c = search naming-level
