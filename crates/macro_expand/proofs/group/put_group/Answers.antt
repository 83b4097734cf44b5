use Rattle.macro_expand.proofs.GroupCode.{grouping}
use Rattle.macro_expand.proofs.group.put_group.Goals as goal

pub put_symbols-x-requires : goal.put_symbols-x-requires
put_symbols-x-requires c = search grouping

pub returns : goal.returns
returns c = search grouping

pub overflow_add-q : goal.overflow_add-q
overflow_add-q c = search grouping
