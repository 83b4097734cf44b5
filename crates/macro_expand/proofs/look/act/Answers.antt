use Rattle.macro_expand.proofs.LookCode.{acting}
use Rattle.macro_expand.proofs.look.act.Goals as goal

pub returns-then-work-at-eq42 : goal.returns-then-work-at-eq42
returns-then-work-at-eq42 c = search acting

pub returns-else-work-at-eq42 : goal.returns-else-work-at-eq42
returns-else-work-at-eq42 c = search acting
