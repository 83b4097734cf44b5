use Rattle.macro_expand.proofs.StarCode.{star_putting}
use Rattle.macro_expand.proofs.star.put_star.Goals as goal

pub returns : goal.returns
returns c = search star_putting
