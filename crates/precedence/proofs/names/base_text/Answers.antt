use Rattle.precedence.proofs.NamesHashCode.{basing}
use Rattle.precedence.proofs.names.base_text.Goals as goal

pub returns : goal.returns
returns c = search basing
