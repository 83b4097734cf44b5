use Rattle.settling.proofs.PrintCode.{starting}
use Rattle.settling.proofs.print.open.Goals as goal

pub put_before-q-requires : goal.put_before-q-requires
put_before-q-requires c = search starting
