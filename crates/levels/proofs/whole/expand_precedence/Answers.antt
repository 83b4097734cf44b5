use Rattle.std.proofs.lemmas.Result.{err_from_is_err_and}
use Rattle.levels.proofs.WholeMeanLoop.{looping}
use Rattle.levels.proofs.whole.expand_precedence.Goals as goal

pub loop-i-init : goal.loop-i-init
loop-i-init c = search looping

pub expand_item-requires : goal.expand_item-requires
expand_item-requires c = search looping

pub returns-in_err-v : goal.returns-in_err-v
returns-in_err-v c = let p = err_from_is_err_and c.from_residual.result c.from_residual.ensures.1 in rw (p.1, p.2) (search looping)

pub loop-i-preserved : goal.loop-i-preserved
loop-i-preserved c = search (looping, c.in_ok-v.was)

pub returns : goal.returns
returns c = search looping
