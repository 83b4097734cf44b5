use Rattle.std.proofs.Common.{rules}
use Rattle.expander.proofs.StageNoteTurn.{noting}
use Rattle.expander.proofs.StageTurnCode.{turn_first, turn_hops, turning}
use Rattle.expander.proofs.stage.replace_next.Goals as goal

pub bounds-work-at : goal.bounds-work-at
bounds-work-at c = search turning

pub replace_symbol-k-requires : goal.replace_symbol-k-requires
replace_symbol-k-requires c = (search noting, search noting)

pub put_key-requires : goal.put_key-requires
put_key-requires c = (search noting, search noting)

pub returns-then-is_expanded : goal.returns-then-is_expanded
returns-then-is_expanded c = search noting

pub is_macro-requires : goal.is_macro-requires
is_macro-requires c = search turning

pub next_item-requires : goal.next_item-requires
next_item-requires c = (search rules, search (turn_hops c.args.tape.now c.args.work.now c.args.g.now c.args.r))

pub returns-then-is_macro : goal.returns-then-is_macro
returns-then-is_macro c = search turning

pub copy_run-requires : goal.copy_run-requires
copy_run-requires c = (search rules, search rules, search (turn_first c.args.tape.now c.args.work.now c.args.g.now c.args.r), search rules)
