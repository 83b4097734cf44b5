use Rattle.settling.proofs.BuiltCode.{by_number}
use Rattle.settling.proofs.built.built_length.Goals as goal

pub returns : goal.returns
returns c = search by_number
