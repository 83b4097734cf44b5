use Rattle.settling.proofs.PutCode.{quoting}
use Rattle.settling.proofs.put.put_inside.Goals as goal

pub returns-in-34 : goal.returns-in-34
returns-in-34 c = search quoting

pub returns-in_default : goal.returns-in_default
returns-in_default c = search quoting
