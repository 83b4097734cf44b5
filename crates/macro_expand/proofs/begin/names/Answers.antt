use Rattle.macro_expand.proofs.BeginCode.{naming-both}
use Rattle.macro_expand.proofs.begin.names.Goals as goal

pub u64_at-span-requires : goal.u64_at-span-requires
u64_at-span-requires c = search naming-both

pub number-x-requires : goal.number-x-requires
number-x-requires c = search naming-both

pub built-t-requires : goal.built-t-requires
built-t-requires c = search naming-both

pub returns : goal.returns
returns c = search naming-both

pub overflow_add-round : goal.overflow_add-round
overflow_add-round c = search naming-both

pub overflow_add-round-2 : goal.overflow_add-round-2
overflow_add-round-2 c = search naming-both
