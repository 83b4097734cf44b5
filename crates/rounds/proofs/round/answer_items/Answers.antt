use Rattle.std.proofs.lemmas.Result.{err_from_is_err_and}
use Rattle.rounds.proofs.RoundAnswers.{answering_items}
use Rattle.rounds.proofs.round.answer_items.Goals as goal

pub stage_size-requires : goal.stage_size-requires
stage_size-requires c = search answering_items

pub returns-in_err-stage_size : goal.returns-in_err-stage_size
returns-in_err-stage_size c = let p = err_from_is_err_and c.from_residual.result c.from_residual.ensures.1 in rw (p.1, p.2) (search (answering_items, c.in_err-stage_size.was))

pub settle_round-requires : goal.settle_round-requires
settle_round-requires c = search (answering_items, c.in_ok-stage_size.was)

pub returns : goal.returns
returns c = search (answering_items, c.in_ok-stage_size.was)
