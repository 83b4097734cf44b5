use Rattle.std.proofs.lemmas.Result.{err_from_is_err_and}
use Rattle.stages.proofs.ExpandingCode.{running_rounds}
use Rattle.stages.proofs.expanding.run_rounds.Goals as goal

pub expand_rounds-requires : goal.expand_rounds-requires
expand_rounds-requires c = search running_rounds

pub hand_over_macros-requires : goal.hand_over_macros-requires
hand_over_macros-requires c = search (running_rounds, c.in_ok-z.was)

pub returns-in_err-z : goal.returns-in_err-z
returns-in_err-z c = let p = err_from_is_err_and c.from_residual.result c.from_residual.ensures.1 in rw (p.1, p.2) (search (running_rounds, c.in_err-z.was))

pub returns : goal.returns
returns c = search (running_rounds, c.in_ok-z.was)
