use Rattle.settling.proofs.OneWriteCode.{writing}
use Rattle.settling.proofs.one.write_text.Goals as goal

pub entry-y-requires : goal.entry-y-requires
entry-y-requires c = search writing

pub put_new-h-requires : goal.put_new-h-requires
put_new-h-requires c = search writing

pub overflow_add-to : goal.overflow_add-to
overflow_add-to c = search writing

pub overflow_sub-to : goal.overflow_sub-to
overflow_sub-to c = search writing

pub in_work-z-requires : goal.in_work-z-requires
in_work-z-requires c = search writing

pub write-requires : goal.write-requires
write-requires c = search writing

pub returns : goal.returns
returns c = search writing

pub overflow_add-x : goal.overflow_add-x
overflow_add-x c = search writing

pub overflow_add-x-2 : goal.overflow_add-x-2
overflow_add-x-2 c = search writing

pub overflow_add-g : goal.overflow_add-g
overflow_add-g c = search writing
