use Rattle.settling.proofs.SettleCode.{settling}
use Rattle.settling.proofs.settle.settle.Goals as goal

pub write_text-q-requires : goal.write_text-q-requires
write_text-q-requires c = search settling

pub loop-i-preserved : goal.loop-i-preserved
loop-i-preserved c = search settling

pub grow-m-requires : goal.grow-m-requires
grow-m-requires c = search settling

pub widen-m-requires : goal.widen-m-requires
widen-m-requires c = search settling

pub returns : goal.returns
returns c = search settling
