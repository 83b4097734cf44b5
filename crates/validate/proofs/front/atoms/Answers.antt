use Rattle.validate.proofs.AtomsCode.{fronting}
use Rattle.validate.proofs.front.atoms.Goals as goal

pub start-m-requires : goal.start-m-requires
start-m-requires c = search fronting

pub loop-at-init : goal.loop-at-init
loop-at-init c = search fronting

pub loop-at-smaller : goal.loop-at-smaller
loop-at-smaller c = search fronting

pub loop-at-preserved : goal.loop-at-preserved
loop-at-preserved c = search fronting

pub returns-in_default : goal.returns-in_default
returns-in_default c = search fronting

pub returns : goal.returns
returns c = search fronting
