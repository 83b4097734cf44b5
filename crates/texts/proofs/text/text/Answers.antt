use Rattle.texts.proofs.TextCode.{texting}
use Rattle.texts.proofs.text.text.Goals as goal

pub returns : goal.returns
returns c = search texting
