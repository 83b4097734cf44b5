use Rattle.rounds.proofs.RoundCode.{settling}
use Rattle.rounds.proofs.round.settle_round.Goals as goal

pub copy_down-requires : goal.copy_down-requires
copy_down-requires c = search settling

pub drained-requires : goal.drained-requires
drained-requires c = search settling

pub returns : goal.returns
returns c = search settling
