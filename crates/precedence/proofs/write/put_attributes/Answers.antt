use Rattle.precedence.proofs.WriteCode.{keeping}
use Rattle.precedence.proofs.write.put_attributes.Goals as goal

pub loop-k-preserved : goal.loop-k-preserved
loop-k-preserved c = search keeping

pub returns : goal.returns
returns c = search keeping
