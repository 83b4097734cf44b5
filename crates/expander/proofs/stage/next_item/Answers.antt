use Rattle.expander.proofs.StageCode.{hunting}
use Rattle.expander.proofs.stage.next_item.Goals as goal

pub returns-then-is_item : goal.returns-then-is_item
returns-then-is_item c = search hunting

pub loop-q-preserved : goal.loop-q-preserved
loop-q-preserved c = search hunting

pub returns : goal.returns
returns c = search hunting
