use Rattle.std.proofs.lemmas.Result.{err_from_is_err_and}
use Rattle.rounds.proofs.RoundAnswers.{going_on}
use Rattle.rounds.proofs.round.go_on.Goals as goal

pub returns-in_err-stage_size : goal.returns-in_err-stage_size
returns-in_err-stage_size c = let p = err_from_is_err_and c.from_residual.result c.from_residual.ensures.1 in rw (p.1, p.2) (search (going_on, c.in_err-stage_size.was))

pub stage_size-requires : goal.stage_size-requires
stage_size-requires c = search going_on

pub append-requires : goal.append-requires
append-requires c = search (going_on, c.in_ok-stage_size.was)

pub returns-then-h-eq0 : goal.returns-then-h-eq0
returns-then-h-eq0 c = search (going_on, c.in_ok-stage_size.was)

pub returns-in_err-append : goal.returns-in_err-append
returns-in_err-append c = let p = err_from_is_err_and c.from_residual-in_err-append.result c.from_residual-in_err-append.ensures.1 in rw (p.1, p.2) (search (going_on, c.in_ok-stage_size.was, c.in_err-append.was))

pub returns-in_ok-append : goal.returns-in_ok-append
returns-in_ok-append c = search (going_on, c.in_ok-stage_size.was, c.in_ok-append.was)
