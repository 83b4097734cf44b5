use Rattle.settling.proofs.CopiedPutCode.{behinding}
use Rattle.settling.proofs.copied.behind.Goals as goal

pub returns-then-k-lt2 : goal.returns-then-k-lt2
returns-then-k-lt2 c = search behinding

pub symbol_end-requires : goal.symbol_end-requires
symbol_end-requires c = search behinding

pub overflow_sub-result : goal.overflow_sub-result
overflow_sub-result c = search behinding

pub returns : goal.returns
returns c = search behinding

pub overflow_add-x : goal.overflow_add-x
overflow_add-x c = search behinding
