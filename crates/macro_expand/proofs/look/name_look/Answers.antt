use Rattle.macro_expand.proofs.LookCode.{calling}
use Rattle.macro_expand.proofs.look.name_look.Goals as goal

pub u64_at-span-requires : goal.u64_at-span-requires
u64_at-span-requires c = search calling

pub act-a-requires : goal.act-a-requires
act-a-requires c = search calling

pub number-x-requires : goal.number-x-requires
number-x-requires c = search calling

pub returns : goal.returns
returns c = search calling

pub overflow_add-at : goal.overflow_add-at
overflow_add-at c = search calling

pub overflow_add-at-2 : goal.overflow_add-at-2
overflow_add-at-2 c = search calling
