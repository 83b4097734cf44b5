use Rattle.macro_expand.proofs.GroupCode.{expressing}
use Rattle.macro_expand.proofs.group.expand_expr_symbol.Goals as goal

pub u16_at-m-requires : goal.u16_at-m-requires
u16_at-m-requires c = search expressing

pub analyze_expr-requires : goal.analyze_expr-requires
analyze_expr-requires c = search expressing

pub of_command-requires : goal.of_command-requires
of_command-requires c = search expressing

pub returns-in_default : goal.returns-in_default
returns-in_default c = search expressing

pub returns : goal.returns
returns c = search expressing

pub overflow_add-at : goal.overflow_add-at
overflow_add-at c = search expressing

pub overflow_add-at-2 : goal.overflow_add-at-2
overflow_add-at-2 c = search expressing

pub overflow_add-q : goal.overflow_add-q
overflow_add-q c = search expressing
