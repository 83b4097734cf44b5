use Rattle.levels.proofs.SettleNameCode.{before_putting}
use Rattle.levels.proofs.settle.put_before.Goals as goal

pub atom-t-requires : goal.atom-t-requires
atom-t-requires c = search before_putting

pub overflow_sub-to : goal.overflow_sub-to
overflow_sub-to c = search before_putting

pub overflow_add-to : goal.overflow_add-to
overflow_add-to c = search before_putting

pub put_level-requires : goal.put_level-requires
put_level-requires c = search before_putting

pub returns : goal.returns
returns c = search before_putting
