use Rattle.macro_expand.proofs.RepeatCode.{questioning}
use Rattle.macro_expand.proofs.repeat.expand_question.Goals as goal

pub returns : goal.returns
returns c = search questioning
