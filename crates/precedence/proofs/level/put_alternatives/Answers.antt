use Rattle.precedence.proofs.LevelKeysCode.{levelling}
use Rattle.precedence.proofs.level.put_alternatives.Goals as goal

pub put_key-q-requires : goal.put_key-q-requires
put_key-q-requires c = search levelling

pub loop-i-preserved : goal.loop-i-preserved
loop-i-preserved c = search levelling
