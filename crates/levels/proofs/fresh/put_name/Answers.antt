use Rattle.levels.proofs.FreshCode.{name_putting}
use Rattle.levels.proofs.fresh.put_name.Goals as goal

pub base_text-t-requires : goal.base_text-t-requires
base_text-t-requires c = search name_putting

pub put_level-requires : goal.put_level-requires
put_level-requires c = search name_putting

pub returns : goal.returns
returns c = search name_putting
