use Rattle.settling.proofs.CopiedPutCode.{surrounding}
use Rattle.settling.proofs.copied.put_around.Goals as goal

pub put_before-q-requires : goal.put_before-q-requires
put_before-q-requires c = search surrounding

pub overflow_sub-left : goal.overflow_sub-left
overflow_sub-left c = search surrounding

pub put_one-z-requires : goal.put_one-z-requires
put_one-z-requires c = search surrounding

pub put_behind-requires : goal.put_behind-requires
put_behind-requires c = search surrounding

pub returns : goal.returns
returns c = search surrounding
