use Rattle.texts.proofs.ChainCode.{chaining}
use Rattle.texts.proofs.chain.relink.Goals as goal

pub loop-i-preserved : goal.loop-i-preserved
loop-i-preserved c = search chaining
