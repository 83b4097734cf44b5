use Rattle.std.proofs.lemmas.Result.{err_from_is_err_and}
use Rattle.again.proofs.WholeCode.{again_ways}
use Rattle.again.proofs.whole.resolve_again.Goals as goal

pub forget-requires : goal.forget-requires
forget-requires c = search again_ways

pub resolve-requires : goal.resolve-requires
resolve-requires c = search again_ways

pub returns-in_err-resolve : goal.returns-in_err-resolve
returns-in_err-resolve c = let p = err_from_is_err_and c.from_residual.result c.from_residual.ensures.1 in rw (p.1, p.2) (search again_ways)

pub returns : goal.returns
returns c = search (again_ways, c.in_ok-resolve.was)
