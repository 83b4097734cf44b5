use Rattle.display.proofs.ShapeCode.{looking}
use Rattle.display.proofs.window.same_print.Goals as goal

pub returns-then-same_shape : goal.returns-then-same_shape
returns-then-same_shape c = search looking
