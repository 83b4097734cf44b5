use mathlib.Core.Path.{refl}
use Rattle.display.proofs.SinksLaws.{taken_from}
use Rattle.expander.proofs.ReplaceCode.{meeting, symbol_inside, symbol_behind_room, symbol_note, symbol_noted, symbol_plain}
use Rattle.expander.proofs.ReplaceListCode.{looping}
use Rattle.expander.proofs.replace.+replace_symbol_replace_symbols.Goals as goal

pub replace_symbol-bounds-work-at : goal.replace_symbol-bounds-work-at
replace_symbol-bounds-work-at t c = search meeting

pub replace_symbol-before-requires : goal.replace_symbol-before-requires
replace_symbol-before-requires t c = let e = c.words.ensures in rw (e.0, e.1, e.2, e.3) (search meeting)

pub replace_symbol-inside-k-requires : goal.replace_symbol-inside-k-requires
replace_symbol-inside-k-requires t c = search meeting

pub replace_symbol-overflow_sub-left : goal.replace_symbol-overflow_sub-left
replace_symbol-overflow_sub-left t c = search meeting

pub replace_symbol-replace_symbols-q-requires : goal.replace_symbol-replace_symbols-q-requires
replace_symbol-replace_symbols-q-requires t c = let e = c.words.ensures in let b = rw (e.0, e.1, e.2, e.3) at c.before-2.ensures in (search meeting, (c.requires.0, symbol_inside _ _ _ _ _ _ c.requires.0 c.requires.1 _ _ _ refl c.long.ensures.0 c.inside-k.ensures))

pub replace_symbol-behind-requires : goal.replace_symbol-behind-requires
replace_symbol-behind-requires t c = let e = c.words.ensures in let b = rw (e.0, e.1, e.2, e.3) at c.before-2.ensures in symbol_behind_room _ _ _ _ _ _ c.requires.0 c.requires.1 _ _ _ refl c.long.ensures.0 c.inside-k.ensures _ _ c.none-b.ensures (taken_from b) _ _ c.replace_symbols-q.ensures

pub replace_symbol-note-requires : goal.replace_symbol-note-requires
replace_symbol-note-requires t c = let e = c.words.ensures in let b = rw (e.0, e.1, e.2, e.3) at c.before-2.ensures in symbol_note _ _ _ _ _ _ c.requires.0 c.requires.1 _ _ _ refl c.long.ensures.0 c.inside-k.ensures _ _ c.none-b.ensures (taken_from b) _ _ c.replace_symbols-q.ensures _ (taken_from c.behind.ensures) _ c.is_expanded.ensures c.if-is_expanded.true

pub replace_symbol-returns-then-is_expanded : goal.replace_symbol-returns-then-is_expanded
replace_symbol-returns-then-is_expanded t c =
    let e = c.words.ensures in let b = rw (e.0, e.1, e.2, e.3) at c.before-2.ensures in symbol_noted _ _ _ _ _ _ c.requires.0 c.requires.1 _ _ _ refl c.long.ensures.0 c.inside-k.ensures _ _ c.none-b.ensures (taken_from b) _ _ c.replace_symbols-q.ensures _ (taken_from c.behind.ensures) _ c.is_expanded.ensures c.if-is_expanded.true _ _ c.note.ensures

pub replace_symbol-returns-else-is_expanded : goal.replace_symbol-returns-else-is_expanded
replace_symbol-returns-else-is_expanded t c =
    let e = c.words.ensures in let b = rw (e.0, e.1, e.2, e.3) at c.before-2.ensures in symbol_plain _ _ _ _ _ _ c.requires.0 c.requires.1 _ _ _ refl c.long.ensures.0 c.inside-k.ensures _ _ c.none-b.ensures (taken_from b) _ _ c.replace_symbols-q.ensures _ (taken_from c.behind.ensures) _ c.is_expanded.ensures c.if-is_expanded.false

pub replace_symbols-loop-i-init : goal.replace_symbols-loop-i-init
replace_symbols-loop-i-init t c = search looping

pub replace_symbols-replace_symbol-x-requires : goal.replace_symbols-replace_symbol-x-requires
replace_symbols-replace_symbol-x-requires t c = search looping

pub replace_symbols-loop-i-preserved : goal.replace_symbols-loop-i-preserved
replace_symbols-loop-i-preserved t c = search (looping, taken_from)

pub replace_symbols-returns : goal.replace_symbols-returns
replace_symbols-returns t c = search looping
