use Rattle.macro_expand.proofs.ArgumentsCode.{equalling}
use Rattle.macro_expand.proofs.arguments.is_equal.Goals as goal

pub returns : goal.returns
returns c = search equalling
