use Rattle.resolve.proofs.NamesCode.{naming}
use Rattle.resolve.proofs.names.rewrite_ambiguous_id.Goals as goal

pub returns-in_default : goal.returns-in_default
returns-in_default c = search naming

pub returns-in-Terminal : goal.returns-in-Terminal
returns-in-Terminal c = search naming

pub returns-then-n-eq0 : goal.returns-then-n-eq0
returns-then-n-eq0 c = search naming

pub returns-else-n-eq0 : goal.returns-else-n-eq0
returns-else-n-eq0 c = search naming

pub returns-in-Argument : goal.returns-in-Argument
returns-in-Argument c = search naming

pub returns-in-Unknown : goal.returns-in-Unknown
returns-in-Unknown c = search naming
