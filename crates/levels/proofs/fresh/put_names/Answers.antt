use Rattle.levels.proofs.FreshCode.{names_putting}
use Rattle.levels.proofs.fresh.put_names.Goals as goal

pub loop-k-init : goal.loop-k-init
loop-k-init c = search names_putting

pub put_name-q-requires : goal.put_name-q-requires
put_name-q-requires c = search names_putting

pub loop-k-preserved : goal.loop-k-preserved
loop-k-preserved c = search names_putting
