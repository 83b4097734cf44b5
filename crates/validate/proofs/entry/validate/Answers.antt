use Rattle.std.proofs.lemmas.Result.{err_from_is_err_and}
use Rattle.validate.proofs.EntryCode.{wholes}
use Rattle.validate.proofs.entry.validate.Goals as goal

pub validate_items-requires : goal.validate_items-requires
validate_items-requires c = search (wholes, c.in_ok-t.was)

pub returns-in_err-t : goal.returns-in_err-t
returns-in_err-t c = let p = err_from_is_err_and c.from_residual.result c.from_residual.ensures.1 in rw (p.1, p.2) (search (wholes, c.in_err-t.was))
