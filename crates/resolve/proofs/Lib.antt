-- What the proofs of several functions use: NameCode of code, NameLaws of lists, NameMean of what the definitions that follow the code mean on trees.
mod CellsCode
mod NamesCode
pub mod CommandsCode
mod ItemsCode
mod GlobalsCode
pub mod CellsLaws
pub mod GrammarLaws
mod GlobalsTable
mod GlobalsMean
mod ArgumentsMean
mod NamesMean
mod CommandsStep
mod SymbolsMean
mod CommandsMean
mod ScopeMean
mod ItemsMean
mod WholeMean
