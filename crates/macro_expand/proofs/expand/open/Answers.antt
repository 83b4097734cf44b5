use Rattle.macro_expand.proofs.ExpandCode.{opening}
use Rattle.macro_expand.proofs.expand.open.Goals as goal

pub copy_command-run-requires : goal.copy_command-run-requires
copy_command-run-requires c = search opening

pub returns : goal.returns
returns c = search opening
