use Rattle.macro_expand.proofs.RepeatCode.{beginning_with}
use Rattle.macro_expand.proofs.begin.begin_with.Goals as goal

pub put_symbols-y-requires : goal.put_symbols-y-requires
put_symbols-y-requires c = search beginning_with

pub returns : goal.returns
returns c = search beginning_with

pub overflow_add-q : goal.overflow_add-q
overflow_add-q c = search beginning_with
