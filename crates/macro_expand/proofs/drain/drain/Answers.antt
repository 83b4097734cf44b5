use Rattle.std.proofs.lemmas.Result.{err_from_is_err_and}
use Rattle.macro_expand.proofs.DrainCode.{draining}
use Rattle.macro_expand.proofs.drain.drain.Goals as goal

pub returns-in_err-x : goal.returns-in_err-x
returns-in_err-x c = let p = err_from_is_err_and c.from_residual.result c.from_residual.ensures.1 in rw (p.1, p.2) (search (draining, c.in_err-x.was))

pub loop-j-preserved : goal.loop-j-preserved
loop-j-preserved c = search (draining, c.in_ok-x.was)

pub returns : goal.returns
returns c = search draining
