use Rattle.macro_expand.proofs.PushedCode.{others}
use Rattle.macro_expand.proofs.drain.expand_other.Goals as goal

pub expand_repeat_symbol-requires : goal.expand_repeat_symbol-requires
expand_repeat_symbol-requires c = search others

pub returns-in-38 : goal.returns-in-38
returns-in-38 c = search others

pub expand_expr_symbol-requires : goal.expand_expr_symbol-requires
expand_expr_symbol-requires c = search others

pub returns-in-41 : goal.returns-in-41
returns-in-41 c = search others

pub expand_lookaround_symbol-requires : goal.expand_lookaround_symbol-requires
expand_lookaround_symbol-requires c = search others

pub returns-in_default : goal.returns-in_default
returns-in_default c = search others
