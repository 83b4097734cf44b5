use Rattle.macro_expand.proofs.ArgumentsCode.{asking}
use Rattle.macro_expand.proofs.arguments.holds.Goals as goal

pub returns-then-whole_alternative-eq0 : goal.returns-then-whole_alternative-eq0
returns-then-whole_alternative-eq0 c = search asking

pub returns : goal.returns
returns c = search asking
