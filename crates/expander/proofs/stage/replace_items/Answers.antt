use Rattle.expander.proofs.StageLoopCode.{staging}
use Rattle.expander.proofs.stage.replace_items.Goals as goal

pub loop-r-init : goal.loop-r-init
loop-r-init c = search staging

pub replace_next-r-requires : goal.replace_next-r-requires
replace_next-r-requires c = search staging

pub loop-r-preserved : goal.loop-r-preserved
loop-r-preserved c = search staging

pub returns : goal.returns
returns c = search staging
