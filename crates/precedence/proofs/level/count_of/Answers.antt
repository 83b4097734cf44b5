use Rattle.precedence.proofs.LevelWholeCode.{counting_level}
use Rattle.precedence.proofs.level.count_of.Goals as goal

pub returns-in-Some : goal.returns-in-Some
returns-in-Some c = search counting_level

pub returns-in-None : goal.returns-in-None
returns-in-None c = search counting_level
