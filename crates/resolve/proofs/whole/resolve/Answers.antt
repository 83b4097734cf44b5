use Rattle.std.proofs.lemmas.Result.{err_from_is_err_and}
use Rattle.resolve.proofs.WholeMean.{resolved}
use Rattle.resolve.proofs.whole.resolve.Goals as goal

pub returns-in_err-globals : goal.returns-in_err-globals
returns-in_err-globals c = let p = err_from_is_err_and c.from_residual.result c.from_residual.ensures.1 in rw (p.1, p.2) (search resolved)

pub returns : goal.returns
returns c = search (resolved, c.in_ok-globals.was)
