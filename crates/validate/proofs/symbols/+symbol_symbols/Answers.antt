use Rattle.std.proofs.Common.{◌≡◌, ◌-◌, ◌+◌, ◌≤◌, arith, rules}
use Rattle.std.proofs.lemmas.Result.{err_from_is_err_and}
use Rattle.validate.proofs.QuickCode.{stepping}
use Rattle.validate.proofs.SymbolsCode.{walking, symbol_deep}
use Rattle.validate.proofs.symbols.+symbol_symbols.Goals.{symbols-in-None+in_ok-p-in-None, symbols-in-Some+in-None-quick_inside+in_ok-p-in-None-quick_inside, symbols-in-Some+in-Some-quick_inside}
use Rattle.validate.proofs.symbols.+symbol_symbols.Goals as goal

pub symbol-returns-in_err-n : goal.symbol-returns-in_err-n
symbol-returns-in_err-n t c = let p = err_from_is_err_and c.from_residual.result c.from_residual.ensures.1 in rw (p.1, p.2) (search walking)

pub symbol-unreachable-requires : goal.symbol-unreachable-requires
symbol-unreachable-requires t c = search (walking, c.in_ok-n.was)

pub symbol-overflow_sub-left : goal.symbol-overflow_sub-left
symbol-overflow_sub-left t c = search (walking, c.in_ok-n.was)

pub symbol-symbol-requires : goal.symbol-symbol-requires
symbol-symbol-requires t c = let deep : 1 ≤ c.args.left = symbol_deep _ _ _ _ _ _ _ c.command.ensures _ _ c.in_ok-n.was in search rules

pub symbol-overflow_sub-left-in-Over : goal.symbol-overflow_sub-left-in-Over
symbol-overflow_sub-left-in-Over t c = search (walking, c.in_ok-n.was)

pub symbol-symbols-requires : goal.symbol-symbols-requires
symbol-symbols-requires t c = let deep : 1 ≤ c.args.left = symbol_deep _ _ _ _ _ _ _ c.command.ensures _ _ c.in_ok-n.was in search rules

pub symbol-returns-in-Leaf : goal.symbol-returns-in-Leaf
symbol-returns-in-Leaf t c = search (walking, c.in_ok-n.was)

pub symbol-returns-in-Around : goal.symbol-returns-in-Around
symbol-returns-in-Around t c = search (walking, c.in_ok-n.was)

pub symbol-returns-in-Over : goal.symbol-returns-in-Over
symbol-returns-in-Over t c = search (walking, c.in_ok-n.was)

pub symbols-returns-in_err-p-in-None-quick_inside : goal.symbols-returns-in_err-p-in-None-quick_inside
symbols-returns-in_err-p-in-None-quick_inside t c = let p = err_from_is_err_and c.from_residual.result c.from_residual.ensures.1 in rw (p.1, p.2) (search (stepping, c.in_err-p-in-None-quick_inside.was))

pub symbols-returns-in_err-p-in-None : goal.symbols-returns-in_err-p-in-None
symbols-returns-in_err-p-in-None t c = let p = err_from_is_err_and c.from_residual-in_err-p-in-None.result c.from_residual-in_err-p-in-None.ensures.1 in rw (p.1, p.2) (search (stepping, c.in_err-p-in-None.was))

pub symbols-loop-preserved : goal.symbols-loop-preserved
symbols-loop-preserved t c =
    let e : c.args.n - c.loop.counter ≡ c.args.n - (c.loop.counter + 1) + 1 = omega arith in
    elim c.match-quick.branch [
      | symbols-in-None+in_ok-p-in-None w ↦ rw w.p-is (search (stepping, w.in_ok-p-in-None.was))
      | symbols-in-Some+in-None-quick_inside+in_ok-p-in-None-quick_inside w ↦ rw w.p-is (search (stepping, w.in-Some.ensures, w.in_ok-p-in-None-quick_inside.was))
      | symbols-in-Some+in-Some-quick_inside w ↦ rw w.p-is (search (stepping, w.in-Some.ensures, w.in-Some-quick_inside.ensures))
    ]

pub symbols-returns : goal.symbols-returns
symbols-returns t c = search stepping
