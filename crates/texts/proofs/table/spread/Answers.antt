use Rattle.texts.proofs.TableEnterCode.{spreading}
use Rattle.texts.proofs.table.spread.Goals as goal

pub empty-requires : goal.empty-requires
empty-requires c = search spreading

pub relink-requires : goal.relink-requires
relink-requires c = search spreading

pub returns : goal.returns
returns c = search spreading
