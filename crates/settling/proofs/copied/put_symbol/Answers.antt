use Rattle.std.proofs.Common.{refl}
use Rattle.settling.proofs.CopiedPutCode.{symbolling, symbol_closing}
use Rattle.settling.proofs.copied.put_symbol.Goals as goal

pub bounds-work-at : goal.bounds-work-at
bounds-work-at c = search symbolling

pub inside-n-requires : goal.inside-n-requires
inside-n-requires c = search symbolling

pub put_before-q-requires : goal.put_before-q-requires
put_before-q-requires c = search symbolling

pub overflow_sub-left : goal.overflow_sub-left
overflow_sub-left c = search symbolling

pub put_parts-z-requires : goal.put_parts-z-requires
put_parts-z-requires c = search symbolling

pub put_behind-requires : goal.put_behind-requires
put_behind-requires c =
    symbol_closing _ _ _ _ _ _ c.requires.0 c.requires.1 _ refl _ _ c.put_before-q.ensures _ _ _ c.inside-n.ensures c.long.ensures.0 refl _ _ c.put_parts-z.ensures

pub returns : goal.returns
returns c = search symbolling

pub overflow_add-at : goal.overflow_add-at
overflow_add-at c = search symbolling

pub overflow_add-e : goal.overflow_add-e
overflow_add-e c = search symbolling
