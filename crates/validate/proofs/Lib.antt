-- What the proofs of several functions, and of the crates above, use.
mod QuestionsCode
mod SuitsCode
pub mod CommandCode
mod SymbolsCode
mod PassesCode
mod QuickCode
mod QuickInsideCode
mod QuickItemsCode
mod CommandKinds
pub mod FrontCode
mod FrontReads
mod AtomsCode
mod EntryCode
mod CommandMean
mod AlternativesCode
mod ItemsCode
pub mod NotesCode
pub mod TapeLaws
