use Rattle.validate.proofs.FrontCode.{counting}
use Rattle.validate.proofs.front.front.Goals as goal

pub loop-e-init : goal.loop-e-init
loop-e-init c = search counting

pub overflow_add-count : goal.overflow_add-count
overflow_add-count c = search (counting, c.in-Some.is)

pub loop-e-smaller : goal.loop-e-smaller
loop-e-smaller c = search (counting, c.in-Some.is)

pub loop-e-preserved : goal.loop-e-preserved
loop-e-preserved c = search (counting, c.in-Some.is)

pub returns : goal.returns
returns c = search counting
