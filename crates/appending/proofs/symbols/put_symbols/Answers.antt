use Rattle.appending.proofs.SymbolsCode.{copying}
use Rattle.appending.proofs.symbols.put_symbols.Goals as goal

pub loop-x-smaller : goal.loop-x-smaller
loop-x-smaller c = search copying

pub loop-x-preserved : goal.loop-x-preserved
loop-x-preserved c = search copying

pub returns : goal.returns
returns c = search copying
