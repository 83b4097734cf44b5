use Rattle.texts.proofs.TableEnterCode.{starting}
use Rattle.texts.proofs.table.start.Goals as goal

pub empty-requires : goal.empty-requires
empty-requires c = search starting

pub returns : goal.returns
returns c = search starting
