use mathlib.Core.Path.{◌≡◌}
use Prim.Native.Nat.{◌+◌, ◌-◌, ◌≤◌, ◌<◌}
use native.Mathlib.Omega.{arith}
use Rattle.settling.proofs.PrintListCode.{listing}
use Rattle.settling.proofs.PrintSymbolCode.{symboling}
use Rattle.settling.proofs.print.+print_symbol_print_list.Goals as goal

pub print_symbol-open-f-requires : goal.print_symbol-open-f-requires
print_symbol-open-f-requires t c = search symboling

pub print_symbol-overflow_sub-left : goal.print_symbol-overflow_sub-left
print_symbol-overflow_sub-left t c = search symboling

pub print_symbol-print_list-z-requires : goal.print_symbol-print_list-z-requires
print_symbol-print_list-z-requires t c = search symboling

pub print_symbol-returns : goal.print_symbol-returns
print_symbol-returns t c = search symboling

pub print_list-loop-k-init : goal.print_list-loop-k-init
print_list-loop-k-init t c = search listing

pub print_list-print_symbol-r-requires : goal.print_list-print_symbol-r-requires
print_list-print_symbol-r-requires t c = let z : 0 < c.args.n - c.loop-k.k = omega arith in search listing

pub print_list-loop-k-preserved : goal.print_list-loop-k-preserved
print_list-loop-k-preserved t c =
    let z : 0 < c.args.n - c.loop-k.k = omega arith in
    let e : c.args.n - (c.loop-k.k + 1) ≡ c.args.n - c.loop-k.k - 1 = omega arith in
    rw e (search listing)

pub print_list-returns : goal.print_list-returns
print_list-returns t c = let z : c.args.n - c.loop-k.k ≤ 0 = omega arith in search listing
