use Rattle.rounds.proofs.RoundWhole.{telling_last}
use Rattle.rounds.proofs.round.last_pushed.Goals as goal

pub overflow_add-g : goal.overflow_add-g
overflow_add-g c = search telling_last

pub of_command-requires : goal.of_command-requires
of_command-requires c = search telling_last

pub returns : goal.returns
returns c = search telling_last
