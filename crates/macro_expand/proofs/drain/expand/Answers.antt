use Rattle.macro_expand.proofs.PushedCode.{expanding}
use Rattle.macro_expand.proofs.drain.expand.Goals as goal

pub mark-q-requires : goal.mark-q-requires
mark-q-requires c = search expanding

pub overflow_add-c : goal.overflow_add-c
overflow_add-c c = search expanding

pub bounds-work-round : goal.bounds-work-round
bounds-work-round c = search expanding

pub definition-d-requires : goal.definition-d-requires
definition-d-requires c = search expanding

pub expand_macro_symbol-requires : goal.expand_macro_symbol-requires
expand_macro_symbol-requires c = search expanding

pub returns-then-c-eq37 : goal.returns-then-c-eq37
returns-then-c-eq37 c = search expanding

pub expand_other-requires : goal.expand_other-requires
expand_other-requires c = search expanding
