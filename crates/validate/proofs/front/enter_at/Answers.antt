use Rattle.validate.proofs.AtomsCode.{entering_at}
use Rattle.validate.proofs.front.enter_at.Goals as goal

pub atom-t-requires : goal.atom-t-requires
atom-t-requires c = search entering_at

pub find-requires : goal.find-requires
find-requires c = search entering_at

pub returns-then-is_some : goal.returns-then-is_some
returns-then-is_some c = search entering_at

pub class_by-requires : goal.class_by-requires
class_by-requires c = search entering_at

pub on_tape-x-requires : goal.on_tape-x-requires
on_tape-x-requires c = search entering_at

pub enter-r-requires : goal.enter-r-requires
enter-r-requires c = search entering_at

pub returns : goal.returns
returns c = search entering_at
