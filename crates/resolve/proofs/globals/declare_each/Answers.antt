use Rattle.std.proofs.lemmas.Result.{err_from_is_err_and}
use Rattle.resolve.proofs.GlobalsCode.{enumerating}
use Rattle.resolve.proofs.globals.declare_each.Goals as goal
use Rattle.resolve.proofs.globals.declare_each.Goals.{then-work-p+in_ok-declare, else-work-p}

pub returns-in_err-declare : goal.returns-in_err-declare
returns-in_err-declare c = let p = err_from_is_err_and c.from_residual.result c.from_residual.ensures.1 in rw (p.1, p.2) (search enumerating)

pub loop-i-preserved : goal.loop-i-preserved
loop-i-preserved c = elim c.if-work-p.branch [ then-work-p+in_ok-declare w ↦ search (enumerating, w.in_ok-declare.was) | else-work-p w ↦ search enumerating ]

pub returns : goal.returns
returns c = search enumerating
