use Rattle.resolve.proofs.CellsCode.{celling}
use Rattle.resolve.proofs.cells.Entry.definition.Goals as goal

pub returns-in-0 : goal.returns-in-0
returns-in-0 c = search celling

pub returns-in-1 : goal.returns-in-1
returns-in-1 c = search celling

pub returns-in_default : goal.returns-in_default
returns-in_default c = search celling

pub returns-in_default-2 : goal.returns-in_default-2
returns-in_default-2 c = search celling
