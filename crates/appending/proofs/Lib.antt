-- Laws of pieces, of the numbers of built-in texts, and of symbols and commands that are appended. Assumes nothing.
pub mod BuiltGround
mod BuiltStays
pub mod BuiltLaws
pub mod BuiltRoom
mod BuiltNames
mod BuiltMeans
mod BuiltCode
pub mod BuiltAround
pub mod PiecesLaws
mod SymbolsNamedCode
pub mod SymbolsTrees
pub mod SymbolsStays
mod SymbolsReferenceCode
mod SymbolsFirst
mod SymbolsNextCode
mod SymbolsCode
pub mod CommandsCode
