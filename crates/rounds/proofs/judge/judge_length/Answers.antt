use Rattle.rounds.proofs.JudgeCode.{judging_length}
use Rattle.rounds.proofs.judge.judge_length.Goals as goal

pub returns-then-cap-bytes : goal.returns-then-cap-bytes
returns-then-cap-bytes c = search judging_length

pub returns-else-cap-bytes : goal.returns-else-cap-bytes
returns-else-cap-bytes c = search judging_length
