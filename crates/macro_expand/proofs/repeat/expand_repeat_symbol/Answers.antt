use Rattle.macro_expand.proofs.ChoiceCode.{choosing}
use Rattle.macro_expand.proofs.repeat.expand_repeat_symbol.Goals as goal

pub bounds-work-round : goal.bounds-work-round
bounds-work-round c = search choosing

pub returns : goal.returns
returns c = search choosing

pub overflow_add-op : goal.overflow_add-op
overflow_add-op c = search choosing

pub overflow_add-op-2 : goal.overflow_add-op-2
overflow_add-op-2 c = search choosing
