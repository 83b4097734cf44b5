use Rattle.resolve.proofs.GlobalsCode.{entering}
use Rattle.resolve.proofs.globals.declare.Goals as goal

pub returns-then-is_nothing : goal.returns-then-is_nothing
returns-then-is_nothing c = search entering

pub returns : goal.returns
returns c = search entering
