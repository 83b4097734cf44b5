use Rattle.levels.proofs.SettleCode.{settling}
use Rattle.levels.proofs.settle.settle_names.Goals as goal

pub settle_name-q-requires : goal.settle_name-q-requires
settle_name-q-requires c = search settling

pub loop-k-preserved : goal.loop-k-preserved
loop-k-preserved c = search settling

pub returns : goal.returns
returns c = search settling
