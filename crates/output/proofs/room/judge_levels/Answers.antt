use Rattle.std.proofs.lemmas.Result.{err_from_is_err_and}
use Rattle.output.proofs.RoomCode.{judging_levels}
use Rattle.output.proofs.room.judge_levels.Goals as goal

pub returns-in_err-judge_counts : goal.returns-in_err-judge_counts
returns-in_err-judge_counts c = let p = err_from_is_err_and c.from_residual.result c.from_residual.ensures.1 in rw (p.1, p.2) (search (judging_levels, c.in_err-judge_counts.was))

pub returns-in_err-judge_length : goal.returns-in_err-judge_length
returns-in_err-judge_length c =
    let p = err_from_is_err_and c.from_residual-in_err-judge_length.result c.from_residual-in_err-judge_length.ensures.1 in rw (p.1, p.2) (search (judging_levels, c.in_ok-judge_counts.was, c.in_err-judge_length.was))

pub overflow_add-n-2 : goal.overflow_add-n-2
overflow_add-n-2 c = search (judging_levels, c.in_ok-judge_counts.was)

pub returns-in_err-judge_length-2 : goal.returns-in_err-judge_length-2
returns-in_err-judge_length-2 c =
    let p = err_from_is_err_and c.from_residual-in_err-judge_length-2.result c.from_residual-in_err-judge_length-2.ensures.1 in
    rw (p.1, p.2) (search (judging_levels, c.in_ok-judge_counts.was, c.in_ok-judge_length.was, c.in_err-judge_length-2.was))

pub returns : goal.returns
returns c = search (judging_levels, c.in_ok-judge_counts.was, c.in_ok-judge_length.was, c.in_ok-judge_length-2.was)
