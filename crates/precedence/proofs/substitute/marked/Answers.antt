use Rattle.precedence.proofs.SubstituteCode.{marking}
use Rattle.precedence.proofs.substitute.marked.Goals as goal

pub returns-in-Some : goal.returns-in-Some
returns-in-Some c = search marking

pub returns-in-None : goal.returns-in-None
returns-in-None c = search marking
