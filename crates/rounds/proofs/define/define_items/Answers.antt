use Rattle.rounds.proofs.DefineCode.{defining}
use Rattle.rounds.proofs.define.define_items.Goals as goal

pub define_item-requires : goal.define_item-requires
define_item-requires c = search defining

pub loop-i-preserved : goal.loop-i-preserved
loop-i-preserved c = search defining

pub returns : goal.returns
returns c = search defining
