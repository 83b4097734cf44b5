use Rattle.rounds.proofs.RoundCode.{replacing}
use Rattle.rounds.proofs.round.replace.Goals as goal

pub ground-g-requires : goal.ground-g-requires
ground-g-requires c = search replacing

pub replace_items-r-requires : goal.replace_items-r-requires
replace_items-r-requires c = search replacing

pub returns : goal.returns
returns c = search replacing
