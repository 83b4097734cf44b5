use Prim.Native.Nat.{◌+◌, ◌-◌, ◌*◌}
use Rattle.settling.proofs.PrintListCode.{Going}
use Rattle.settling.proofs.print.+print_symbol_print_list.Given as goal

abbrev pub decreases-print_symbol : goal.decreases-print_symbol
decreases-print_symbol l = 2 * l.left

abbrev pub decreases-print_list : goal.decreases-print_list
decreases-print_list l = 2 * l.left + 1

abbrev pub invariant-print_list-loop-k : goal.invariant-print_list-loop-k
invariant-print_list-loop-k l = Going l.page.tape.now l.initial.work l.page.m l.page.width.bytes l.n l.left l.at l.c l.page.lim l.to l.work (l.n - l.k) l.k l.r
