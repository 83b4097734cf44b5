use Rattle.stages.proofs.ExpandingCode.{macros-itemizing}
use Rattle.stages.proofs.expanding.ExpandingPass.items.Goals as goal

pub run_rounds-requires : goal.run_rounds-requires
run_rounds-requires c = search macros-itemizing

pub returns : goal.returns
returns c = search macros-itemizing
