use Rattle.settling.proofs.BuiltCode.{by_number}
use Rattle.settling.proofs.built.put_built.Goals as goal

pub put_bytes-requires : goal.put_bytes-requires
put_bytes-requires c = search by_number

pub returns : goal.returns
returns c = search by_number
