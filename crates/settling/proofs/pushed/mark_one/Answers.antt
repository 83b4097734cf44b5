use Rattle.settling.proofs.PushedCode.{marking}
use Rattle.settling.proofs.pushed.mark_one.Goals as goal

pub tells-requires : goal.tells-requires
tells-requires c = search marking

pub returns-in-Text : goal.returns-in-Text
returns-in-Text c = search marking

pub returns-else-k-g : goal.returns-else-k-g
returns-else-k-g c = search marking

pub returns : goal.returns
returns c = search marking
