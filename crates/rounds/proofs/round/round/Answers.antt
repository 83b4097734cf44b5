use Rattle.rounds.proofs.RoundWhole.{rounding}
use Rattle.rounds.proofs.round.round.Goals as goal

pub returns : goal.returns
returns c = search rounding
