use Rattle.texts.proofs.ChainCode.{emptying}
use Rattle.texts.proofs.chain.empty.Goals as goal

pub loop-y-preserved : goal.loop-y-preserved
loop-y-preserved c = search emptying

pub returns : goal.returns
returns c = search emptying
