use Rattle.settling.proofs.WidenCode.{widening}
use Rattle.settling.proofs.settle.widen.Goals as goal

pub returns-then-m : goal.returns-then-m
returns-then-m c = search widening

pub returns-else-m : goal.returns-else-m
returns-else-m c = search widening
