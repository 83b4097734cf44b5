use Prim.Native.Nat.{◌+◌, ◌-◌, ◌*◌}
use Rattle.display.proofs.ListCode.{Forming}
use Rattle.display.proofs.sink.+print_symbol_print_list.Given as goal

abbrev pub decreases-print_symbol : goal.decreases-print_symbol
decreases-print_symbol g l = 2 * l.left

abbrev pub decreases-print_list : goal.decreases-print_list
decreases-print_list g l = 2 * l.left + 1

abbrev pub invariant-print_list-loop-k : goal.invariant-print_list-loop-k
invariant-print_list-loop-k g l = Forming g.S.Sink.more l.words.tape.now l.words.work.now l.words.m l.words.width.bytes l.n l.left l.at l.c l.initial.s l.p (l.n - l.k) l.k l.s
