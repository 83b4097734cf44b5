use Rattle.expander.proofs.StageRunCode.{going}
use Rattle.expander.proofs.stage.run_end.Goals as goal

pub loop-q-init : goal.loop-q-init
loop-q-init c = search going

pub loop-q-preserved-then-is_named_leaf : goal.loop-q-preserved-then-is_named_leaf
loop-q-preserved-then-is_named_leaf c = search going

pub is_uncopied-requires : goal.is_uncopied-requires
is_uncopied-requires c = search going

pub loop-q-preserved : goal.loop-q-preserved
loop-q-preserved c = search going
