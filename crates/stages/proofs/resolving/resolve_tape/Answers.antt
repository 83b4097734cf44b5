use Rattle.std.proofs.lemmas.Result.{err_from_is_err_and}
use Rattle.stages.proofs.ResolvingCode.{tapes_resolved}
use Rattle.stages.proofs.resolving.resolve_tape.Goals as goal

pub resolve_valid-requires : goal.resolve_valid-requires
resolve_valid-requires c = search (tapes_resolved, c.in_ok-v.was)

pub returns-in_err-v : goal.returns-in_err-v
returns-in_err-v c = let p = err_from_is_err_and c.from_residual.result c.from_residual.ensures.1 in rw (p.1, p.2) (search (tapes_resolved, c.in_err-v.was))
