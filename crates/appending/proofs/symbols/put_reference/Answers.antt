use Rattle.appending.proofs.SymbolsReferenceCode.{referring_one}
use Rattle.appending.proofs.symbols.put_reference.Goals as goal

pub u64_at-span-requires : goal.u64_at-span-requires
u64_at-span-requires c = search referring_one

pub put_named-out-requires : goal.put_named-out-requires
put_named-out-requires c = search referring_one

pub overflow_sub-result : goal.overflow_sub-result
overflow_sub-result c = search referring_one

pub returns : goal.returns
returns c = search referring_one

pub overflow_add-at : goal.overflow_add-at
overflow_add-at c = search referring_one

pub overflow_add-at-2 : goal.overflow_add-at-2
overflow_add-at-2 c = search referring_one
