use Rattle.precedence.proofs.WriteWholeCode.{heading}
use Rattle.precedence.proofs.write.put_head.Goals as goal

pub returns : goal.returns
returns c = search heading
