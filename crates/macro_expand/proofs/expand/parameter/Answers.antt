use Rattle.macro_expand.proofs.ExpandCode.{parametric}
use Rattle.macro_expand.proofs.expand.parameter.Goals as goal

pub returns-then-x-at-eq36 : goal.returns-then-x-at-eq36
returns-then-x-at-eq36 c = search parametric

pub returns-else-x-at-eq36 : goal.returns-else-x-at-eq36
returns-else-x-at-eq36 c = search parametric
