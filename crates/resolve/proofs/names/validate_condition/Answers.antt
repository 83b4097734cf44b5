use Rattle.resolve.proofs.NamesCode.{naming}
use Rattle.resolve.proofs.names.validate_condition.Goals as goal

pub returns-in_default : goal.returns-in_default
returns-in_default c = search naming

pub returns-in-Argument : goal.returns-in-Argument
returns-in-Argument c = search naming

pub returns-in-Terminal : goal.returns-in-Terminal
returns-in-Terminal c = search naming

pub returns-in-Unknown : goal.returns-in-Unknown
returns-in-Unknown c = search naming
