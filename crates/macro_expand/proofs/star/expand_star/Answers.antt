use Rattle.macro_expand.proofs.StarCode.{starring}
use Rattle.macro_expand.proofs.star.expand_star.Goals as goal

pub fits-deep-requires : goal.fits-deep-requires
fits-deep-requires c = search starring

pub returns : goal.returns
returns c = search starring

pub overflow_add-p : goal.overflow_add-p
overflow_add-p c = search starring

pub overflow_add-round : goal.overflow_add-round
overflow_add-round c = search starring
