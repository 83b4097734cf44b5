use Rattle.macro_expand.proofs.ExpandListCode.{Filling}
use Prim.Native.Nat.{◌+◌, ◌-◌, ◌*◌}
use Rattle.macro_expand.proofs.expand.+macro_expand_symbol_macro_expand_symbols.Given as goal

abbrev pub decreases-macro_expand_symbol : goal.decreases-macro_expand_symbol
decreases-macro_expand_symbol l = 2 * l.left

abbrev pub decreases-macro_expand_symbols : goal.decreases-macro_expand_symbols
decreases-macro_expand_symbols l = 2 * l.left + 1

abbrev pub invariant-macro_expand_symbols-loop : goal.invariant-macro_expand_symbols-loop
invariant-macro_expand_symbols-loop l = Filling l.tape l.initial.work l.c.round.g l.c.round.n l.c.round.lim l.c.call l.left l.k l.initial.r l.work l.r (l.k - l.counter)
