use Rattle.precedence.proofs.LevelWholeCode.{level_read, level_roomy, level_upto, levelled-put}
use Rattle.precedence.proofs.level.write_level.Goals as goal

pub put_alternatives-r-requires : goal.put_alternatives-r-requires
put_alternatives-r-requires c = (search level_read, search level_upto, search level_roomy)

pub returns-in-None : goal.returns-in-None
returns-in-None c = search levelled-put

pub returns-in-Some : goal.returns-in-Some
returns-in-Some c = search levelled-put
