use Rattle.texts.proofs.FieldsCode.{fielding}
use Rattle.texts.proofs.fields.mark.Goals as goal

pub returns : goal.returns
returns c = search fielding
