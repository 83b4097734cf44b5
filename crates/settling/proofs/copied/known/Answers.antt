use Rattle.settling.proofs.CopiedCode.{knowing}
use Rattle.settling.proofs.copied.known.Goals as goal

pub bounds-work-x : goal.bounds-work-x
bounds-work-x c = search knowing

pub numbered-requires : goal.numbered-requires
numbered-requires c = search knowing

pub overflow_add-x : goal.overflow_add-x
overflow_add-x c = search knowing
