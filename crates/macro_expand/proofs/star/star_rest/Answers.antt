use Rattle.macro_expand.proofs.StarCode.{star_resting}
use Rattle.macro_expand.proofs.star.star_rest.Goals as goal

pub put_symbols-x-requires : goal.put_symbols-x-requires
put_symbols-x-requires c = search star_resting

pub returns : goal.returns
returns c = search star_resting
