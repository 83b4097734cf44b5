use Rattle.octets.specs.Plain.Runs.{part}
use Rattle.display.proofs.ShapeCode.{operands}
use Rattle.display.proofs.shape.same_operands.Goals as goal

pub returns : goal.returns
unfolding part
returns c = search operands
