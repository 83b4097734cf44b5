use Rattle.macro_expand.proofs.StarCode.{beginning_star}
use Rattle.macro_expand.proofs.star.begin_star.Goals as goal

pub returns : goal.returns
returns c = search beginning_star
