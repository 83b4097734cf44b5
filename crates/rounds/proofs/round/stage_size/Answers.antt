use Rattle.rounds.proofs.RoundAnswers.{sized}
use Rattle.rounds.proofs.round.stage_size.Goals as goal

pub returns : goal.returns
returns c = search sized
