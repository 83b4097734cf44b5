use Rattle.texts.proofs.TableEnterCode.{entering}
use Rattle.texts.proofs.table.enter.Goals as goal

pub put_record-requires : goal.put_record-requires
put_record-requires c = search entering

pub returns : goal.returns
returns c = search entering
