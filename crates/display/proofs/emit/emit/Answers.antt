use Rattle.display.proofs.WindowCode.{emitting}
use Rattle.display.proofs.emit.emit.Goals as goal

pub returns-then-p-gt0 : goal.returns-then-p-gt0
returns-then-p-gt0 c = search emitting
