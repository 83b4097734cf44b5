use Rattle.std.proofs.Common.{rules}
use Rattle.display.proofs.ShapeCode.{running, running_next, running_long, running_room, running_room_q}
use Rattle.display.proofs.shape.same_shape.Goals as goal

pub loop-k-init : goal.loop-k-init
loop-k-init c = search running

pub bounds-work-p : goal.bounds-work-p
bounds-work-p c = search running

pub bounds-work-q : goal.bounds-work-q
bounds-work-q c = search running

pub same_operands-requires : goal.same_operands-requires
same_operands-requires c = (search running_long, search running_room, search running_room_q)

pub inside-requires : goal.inside-requires
inside-requires c = search running

pub overflow_add-k : goal.overflow_add-k
overflow_add-k c = search running

pub overflow_add-p : goal.overflow_add-p
overflow_add-p c = search running

pub overflow_add-q : goal.overflow_add-q
overflow_add-q c = search running

pub loop-k-smaller : goal.loop-k-smaller
loop-k-smaller c = search running

pub loop-k-preserved : goal.loop-k-preserved
loop-k-preserved c = search (rules, running_next)

pub returns : goal.returns
returns c = search running
