use Rattle.stages.proofs.ExpandingCode.{macros-rounds}
use Rattle.stages.proofs.expanding.expand_rounds.Goals as goal

pub rounds-requires : goal.rounds-requires
rounds-requires c = search macros-rounds

pub returns : goal.returns
returns c = search macros-rounds
