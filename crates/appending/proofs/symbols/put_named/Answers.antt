use Rattle.appending.proofs.SymbolsNamedCode.{naming_one}
use Rattle.appending.proofs.symbols.put_named.Goals as goal

pub number-x-requires : goal.number-x-requires
number-x-requires c = search naming_one

pub returns : goal.returns
returns c = search naming_one
