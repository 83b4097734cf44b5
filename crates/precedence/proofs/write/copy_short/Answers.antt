use Rattle.precedence.proofs.ShortCode.{copying_short}
use Rattle.precedence.proofs.write.copy_short.Goals as goal

pub returns : goal.returns
returns c = search copying_short
