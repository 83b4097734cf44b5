use Rattle.rounds.proofs.DefineCode.{defined}
use Rattle.rounds.proofs.define.define.Goals as goal

pub define_items-requires : goal.define_items-requires
define_items-requires c = search defined

pub returns : goal.returns
returns c = search defined
