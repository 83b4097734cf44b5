use Rattle.output.proofs.HandOverCode.{handing_levels}
use Rattle.output.proofs.handing.hand_over_levels.Goals as goal

pub returns : goal.returns
returns c = search handing_levels
