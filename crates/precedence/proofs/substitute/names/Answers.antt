use Rattle.precedence.proofs.SubstituteCode.{naming}
use Rattle.precedence.proofs.substitute.names.Goals as goal

pub returns-then-work-at-eq36 : goal.returns-then-work-at-eq36
returns-then-work-at-eq36 c = search naming

pub returns-else-work-at-eq36 : goal.returns-else-work-at-eq36
returns-else-work-at-eq36 c = search naming
