use Rattle.std.proofs.lemmas.Result.{err_from_is_err_and}
use Rattle.resolve.proofs.GlobalsCode.{resolving}
use Rattle.resolve.proofs.globals.globals.Goals as goal

pub returns-in_err-declare_each : goal.returns-in_err-declare_each
returns-in_err-declare_each c = let p = err_from_is_err_and c.from_residual.result c.from_residual.ensures.1 in rw (p.1, p.2) (search resolving)

pub returns-in_err-declare_each-2 : goal.returns-in_err-declare_each-2
returns-in_err-declare_each-2 c = let p = err_from_is_err_and c.from_residual-in_err-declare_each-2.result c.from_residual-in_err-declare_each-2.ensures.1 in rw (p.1, p.2) (search resolving)

pub returns : goal.returns
returns c = search (resolving, c.in_ok-declare_each.was, c.in_ok-declare_each-2.was)
