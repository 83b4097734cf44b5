use Rattle.levels.proofs.SettleNameCode.{name_settling}
use Rattle.levels.proofs.settle.settle_name.Goals as goal

pub returns : goal.returns
returns c = search name_settling
