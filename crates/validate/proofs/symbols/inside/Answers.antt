use Rattle.validate.proofs.SymbolsCode.{insides}
use Rattle.validate.proofs.symbols.inside.Goals as goal

pub returns-in-Macro : goal.returns-in-Macro
returns-in-Macro c = search insides

pub returns-in-Group : goal.returns-in-Group
returns-in-Group c = search insides
