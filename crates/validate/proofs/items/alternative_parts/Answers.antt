use Rattle.std.proofs.lemmas.Result.{err_from_is_err_and}
use Rattle.validate.proofs.AlternativesCode.{alternative_parts_lem}
use Rattle.validate.proofs.items.alternative_parts.Goals as goal

pub returns-in_err-e : goal.returns-in_err-e
returns-in_err-e c = let p = err_from_is_err_and c.from_residual.result c.from_residual.ensures.1 in rw (p.1, p.2) (search alternative_parts_lem)

pub returns-in_err-d : goal.returns-in_err-d
returns-in_err-d c = let p = err_from_is_err_and c.from_residual-in_err-d.result c.from_residual-in_err-d.ensures.1 in rw (p.1, p.2) (search (alternative_parts_lem, c.in_ok-e.was))

pub returns : goal.returns
returns c = search (alternative_parts_lem, c.in_ok-e.was, c.in_ok-d.was)
