use Rattle.settling.proofs.CopiedPutCode.{parting}
use Rattle.settling.proofs.copied.put_part.Goals as goal

pub bounds-work-x : goal.bounds-work-x
bounds-work-x c = search parting

pub overflow_add-c : goal.overflow_add-c
overflow_add-c c = search parting
