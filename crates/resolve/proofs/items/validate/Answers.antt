use Rattle.std.proofs.lemmas.Result.{err_from_is_err_and}
use Rattle.resolve.proofs.ItemsCode.{iterating}
use Rattle.resolve.proofs.items.validate.Goals as goal
use Rattle.resolve.proofs.items.validate.Goals.{then-work-p-eq16+in_ok-validate_item, else-work-p-eq16}

pub returns-in_err-validate_item : goal.returns-in_err-validate_item
returns-in_err-validate_item c = let p = err_from_is_err_and c.from_residual.result c.from_residual.ensures.1 in rw (p.1, p.2) (search iterating)

pub loop-i-preserved : goal.loop-i-preserved
loop-i-preserved c = elim c.if-work-p-eq16.branch [ then-work-p-eq16+in_ok-validate_item w ↦ search (iterating, w.in_ok-validate_item.was) | else-work-p-eq16 w ↦ search iterating ]

pub returns : goal.returns
returns c = search iterating
