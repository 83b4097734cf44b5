use Rattle.validate.proofs.QuickInsideCode.{insiding}
use Rattle.validate.proofs.quick.quick_inside.Goals as goal

pub returns-then-n-eq0 : goal.returns-then-n-eq0
returns-then-n-eq0 c = search insiding

pub returns : goal.returns
returns c = search insiding
