use Rattle.precedence.proofs.NamesCode.{digiting}
use Rattle.precedence.proofs.names.digit_at.Goals as goal

pub nonzero_div-v : goal.nonzero_div-v
nonzero_div-v c = search digiting

pub returns : goal.returns
returns c = search digiting
