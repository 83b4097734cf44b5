use Rattle.std.proofs.lemmas.Result.{err_from_is_err_and}
use Rattle.rounds.proofs.RoundAnswers.{appending}
use Rattle.rounds.proofs.round.append.Goals as goal

pub answer_items-requires : goal.answer_items-requires
answer_items-requires c = search (appending, c.in_ok-v.was)

pub returns-in_err-v : goal.returns-in_err-v
returns-in_err-v c = let p = err_from_is_err_and c.from_residual.result c.from_residual.ensures.1 in rw (p.1, p.2) (search (appending, c.in_err-v.was))

pub returns : goal.returns
returns c = search (appending, c.in_ok-v.was)
