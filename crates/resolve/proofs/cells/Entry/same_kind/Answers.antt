use Rattle.resolve.proofs.GlobalsCode.{describing}
use Rattle.resolve.proofs.cells.Entry.same_kind.Goals as goal

pub returns : goal.returns
returns c = search describing
