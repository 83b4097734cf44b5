use Rattle.stages.proofs.PassCode.{resolving_pass}
use Rattle.stages.proofs.resolving.ResolvingPass.items.Goals as goal

pub hand_over-requires : goal.hand_over-requires
hand_over-requires c = search resolving_pass

pub returns : goal.returns
returns c = search resolving_pass
