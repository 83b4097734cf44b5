use Rattle.settling.proofs.BuiltCode.{puts_bytes}
use Rattle.settling.proofs.built.put_bytes.Goals as goal

pub returns : goal.returns
returns c = search puts_bytes
