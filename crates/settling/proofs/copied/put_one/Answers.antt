use Rattle.settling.proofs.CopiedPutCode.{choosing}
use Rattle.settling.proofs.copied.put_one.Goals as goal

pub put_known-requires : goal.put_known-requires
put_known-requires c = search choosing

pub returns-in-Some : goal.returns-in-Some
returns-in-Some c = search choosing
