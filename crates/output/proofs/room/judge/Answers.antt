use Rattle.std.proofs.lemmas.Result.{err_from_is_err_and}
use Rattle.output.proofs.RoomCode.{judging}
use Rattle.output.proofs.room.judge.Goals as goal

pub returns-in_err-judge_counts : goal.returns-in_err-judge_counts
returns-in_err-judge_counts c = let p = err_from_is_err_and c.from_residual.result c.from_residual.ensures.1 in rw (p.1, p.2) (search (judging, c.in_err-judge_counts.was))

pub returns : goal.returns
returns c = search (judging, c.in_ok-judge_counts.was)
