use Rattle.rounds.proofs.RoundCode.{settling_texts}
use Rattle.rounds.proofs.round.settle_texts.Goals as goal

pub settle-requires : goal.settle-requires
settle-requires c = search settling_texts
