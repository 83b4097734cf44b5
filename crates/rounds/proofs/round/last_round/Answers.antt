use Rattle.std.proofs.lemmas.Result.{err_from_is_err_and}
use Rattle.rounds.proofs.RoundWhole.{rounding_last}
use Rattle.rounds.proofs.round.last_round.Goals as goal

pub last_pushed-requires : goal.last_pushed-requires
last_pushed-requires c = search rounding_last

pub returns-then-h-ne0 : goal.returns-then-h-ne0
returns-then-h-ne0 c = search rounding_last

pub stage_size-requires : goal.stage_size-requires
stage_size-requires c = search rounding_last

pub returns-in_err-stage_size : goal.returns-in_err-stage_size
returns-in_err-stage_size c = let p = err_from_is_err_and c.from_residual.result c.from_residual.ensures.1 in rw (p.1, p.2) (search (rounding_last, c.in_err-stage_size.was))

pub returns : goal.returns
returns c = search (rounding_last, c.in_ok-stage_size.was)
