use Rattle.expander.proofs.StageTurnCode.{copying}
use Rattle.expander.proofs.stage.copy_run.Goals as goal

pub copy_within-requires : goal.copy_within-requires
copy_within-requires c = search copying

pub returns : goal.returns
returns c = search copying
