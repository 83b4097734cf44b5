use Rattle.resolve.proofs.CellsCode.{celling}
use Rattle.resolve.proofs.cells.known.Goals as goal

pub returns-then-k-m : goal.returns-then-k-m
returns-then-k-m c = search celling

pub returns-else-k-m : goal.returns-else-k-m
returns-else-k-m c = search celling
