use Rattle.resolve.proofs.NamesCode.{naming}
use Rattle.resolve.proofs.names.validate_macro.Goals as goal

pub returns-in_default : goal.returns-in_default
returns-in_default c = search naming

pub returns-in-Terminal : goal.returns-in-Terminal
returns-in-Terminal c = search naming

pub returns-then-n-eq0 : goal.returns-then-n-eq0
returns-then-n-eq0 c = search naming

pub returns-then-n-k : goal.returns-then-n-k
returns-then-n-k c = search naming

pub returns-else-n-k : goal.returns-else-n-k
returns-else-n-k c = search naming

pub returns-in-Unknown : goal.returns-in-Unknown
returns-in-Unknown c = search naming
