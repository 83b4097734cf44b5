use Rattle.expander.proofs.MeetCode.{ending}
use Rattle.expander.proofs.meet.symbol_end.Goals as goal

pub loop-k-init : goal.loop-k-init
loop-k-init c = search ending

pub bounds-work-p : goal.bounds-work-p
bounds-work-p c = search ending

pub inside-requires : goal.inside-requires
inside-requires c = search ending

pub overflow_add-k : goal.overflow_add-k
overflow_add-k c = search ending

pub overflow_add-p : goal.overflow_add-p
overflow_add-p c = search ending

pub loop-k-smaller : goal.loop-k-smaller
loop-k-smaller c = search ending

pub loop-k-preserved : goal.loop-k-preserved
loop-k-preserved c = search ending

pub returns : goal.returns
returns c = search ending
