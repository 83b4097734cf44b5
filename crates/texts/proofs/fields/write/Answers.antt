use Rattle.texts.proofs.FieldsCode.{writing}
use Rattle.texts.proofs.fields.write.Goals as goal

pub returns : goal.returns
returns c = search writing
