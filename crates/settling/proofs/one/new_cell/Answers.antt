use Rattle.settling.proofs.OneWriteCode.{celling}
use Rattle.settling.proofs.one.new_cell.Goals as goal

pub returns-in-Print : goal.returns-in-Print
returns-in-Print c = search celling

pub returns-in-BuiltIn : goal.returns-in-BuiltIn
returns-in-BuiltIn c = search celling
