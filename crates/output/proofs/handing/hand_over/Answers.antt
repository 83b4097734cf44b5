use Rattle.output.proofs.HandOverCode.{handing}
use Rattle.output.proofs.handing.hand_over.Goals as goal

pub returns : goal.returns
returns c = search handing
