use Rattle.precedence.proofs.LevelCode.{naming-put}
use Rattle.precedence.proofs.level.put_named.Goals as goal

pub returns : goal.returns
returns c = search naming-put
