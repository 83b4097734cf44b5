use Rattle.texts.proofs.TextCode.{atoming}
use Rattle.texts.proofs.text.atom.Goals as goal

pub overflow_add-at : goal.overflow_add-at
overflow_add-at c = search atoming

pub u16_at-n-requires : goal.u16_at-n-requires
u16_at-n-requires c = search atoming

pub overflow_add-a : goal.overflow_add-a
overflow_add-a c = search atoming

pub overflow_add-e : goal.overflow_add-e
overflow_add-e c = search atoming

pub slice_bounds-result-end : goal.slice_bounds-result-end
slice_bounds-result-end c = search atoming

pub returns : goal.returns
returns c = search atoming
