use Rattle.texts.proofs.TableEnterCode.{growing}
use Rattle.texts.proofs.table.grow.Goals as goal

pub relink-requires : goal.relink-requires
relink-requires c = search growing

pub returns : goal.returns
returns c = search growing
