use Rattle.display.proofs.SinksLaws.{filling}
use Rattle.display.proofs.window.fill.Goals as goal

pub print_symbol-requires : goal.print_symbol-requires
print_symbol-requires c = search filling

pub returns : goal.returns
returns c = search filling
