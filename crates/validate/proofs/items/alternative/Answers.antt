use Rattle.std.proofs.lemmas.Result.{err_from_is_err_and}
use Rattle.validate.proofs.AlternativesCode.{alternative}
use Rattle.validate.proofs.items.alternative.Goals as goal

pub returns-in-Some : goal.returns-in-Some
returns-in-Some c = search alternative

pub returns-in_err-n : goal.returns-in_err-n
returns-in_err-n c = let p = err_from_is_err_and c.from_residual.result c.from_residual.ensures.1 in rw (p.1, p.2) (search alternative)

pub returns : goal.returns
returns c = search (alternative, c.in_ok-n.was)

pub unreachable-requires : goal.unreachable-requires
unreachable-requires c = search (alternative, c.in_ok-n.was)
