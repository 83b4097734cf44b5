use Rattle.texts.proofs.FieldsCode.{fielding}
use Rattle.texts.proofs.fields.class.Goals as goal

pub returns : goal.returns
returns c = search fielding
