use Rattle.std.proofs.lemmas.Result.{err_from_is_err_and}
use Rattle.rounds.proofs.JudgeCode.{sizing}
use Rattle.rounds.proofs.judge.sizes.Goals as goal

pub overflow_add-k : goal.overflow_add-k
overflow_add-k c = search sizing

pub returns-in_err-judge_counts : goal.returns-in_err-judge_counts
returns-in_err-judge_counts c = let p = err_from_is_err_and c.from_residual.result c.from_residual.ensures.1 in rw (p.1, p.2) (search (sizing, c.in_err-judge_counts.was))

pub count_texts-requires : goal.count_texts-requires
count_texts-requires c = search (sizing, c.in_ok-judge_counts.was)

pub returns-in_err-fresh : goal.returns-in_err-fresh
returns-in_err-fresh c = let p = err_from_is_err_and c.from_residual-in_err-fresh.result c.from_residual-in_err-fresh.ensures.1 in rw (p.1, p.2) (search (sizing, c.in_ok-judge_counts.was, c.in_err-fresh.was))

pub overflow_add-bytes : goal.overflow_add-bytes
overflow_add-bytes c = search (sizing, c.in_ok-judge_counts.was, c.in_ok-fresh.was)

pub returns : goal.returns
returns c = search (sizing, c.in_ok-judge_counts.was, c.in_ok-fresh.was)
