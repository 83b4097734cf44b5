use Rattle.std.proofs.Common.{rules}
use Rattle.std.proofs.lemmas.Result.{err_from_is_err_and}
use Rattle.stages.proofs.WholeCode.{whole_pass, whole_names}
use Rattle.stages.proofs.whole.WholePass.items.Goals as goal

pub returns-in_err-l : goal.returns-in_err-l
returns-in_err-l c = let p = err_from_is_err_and c.from_residual.result c.from_residual.ensures.1 in rw (p.1, p.2) (search (whole_pass, c.in_err-l.was))

pub settle_names-low-requires : goal.settle_names-low-requires
settle_names-low-requires c = whole_names _ c.args.output.now _ _ _ _ c.level.ensures _ c.in_ok-l.was (search rules) _ c.macros_room-room.ensures

pub expand_settled-requires : goal.expand_settled-requires
expand_settled-requires c = search (whole_pass, c.in_ok-l.was)
