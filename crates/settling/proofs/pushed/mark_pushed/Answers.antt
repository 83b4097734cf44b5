use Rattle.settling.proofs.PushedAllCode.{all_marking}
use Rattle.settling.proofs.pushed.mark_pushed.Goals as goal

pub loop-j-init : goal.loop-j-init
loop-j-init c = search all_marking

pub mark_one-requires : goal.mark_one-requires
mark_one-requires c = search all_marking

pub loop-j-preserved : goal.loop-j-preserved
loop-j-preserved c = search all_marking
