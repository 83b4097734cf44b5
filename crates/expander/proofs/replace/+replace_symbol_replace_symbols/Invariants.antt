use Prim.Native.Nat.{◌+◌, ◌-◌, ◌*◌}
use Rattle.expander.proofs.ReplaceListCode.{Replacing}
use Rattle.expander.proofs.replace.+replace_symbol_replace_symbols.Given as goal

abbrev pub decreases-replace_symbol : goal.decreases-replace_symbol
decreases-replace_symbol l = 2 * l.left

abbrev pub decreases-replace_symbols : goal.decreases-replace_symbols
decreases-replace_symbols l = 2 * l.left + 1

abbrev pub invariant-replace_symbols-loop-i : goal.invariant-replace_symbols-loop-i
invariant-replace_symbols-loop-i l = Replacing l.tape l.initial.work l.g l.left l.fn.q.at l.k l.c l.fn.q.pile l.fn.q.form l.work l.r l.i (l.k - l.i)
