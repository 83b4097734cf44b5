use Rattle.texts.proofs.FieldsCode.{fielding}
use Rattle.texts.proofs.fields.cell.Goals as goal

pub returns : goal.returns
returns c = search fielding
