use Rattle.std.proofs.lemmas.Result.{err_from_is_err_and}
use Rattle.stages.proofs.ResolvingCode.{validated}
use Rattle.stages.proofs.resolving.resolve_valid.Goals as goal

pub copy-requires : goal.copy-requires
copy-requires c = search validated

pub overflow_add-t : goal.overflow_add-t
overflow_add-t c = search validated

pub resolve-requires : goal.resolve-requires
resolve-requires c = search validated

pub returns-in_err-resolve : goal.returns-in_err-resolve
returns-in_err-resolve c = let p = err_from_is_err_and c.from_residual.result c.from_residual.ensures.1 in rw (p.1, p.2) (search (validated, c.in_err-resolve.was))

pub returns : goal.returns
returns c = search (validated, c.in_ok-resolve.was)
