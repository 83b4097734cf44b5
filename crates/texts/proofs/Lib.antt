-- What the proofs of several functions, and of the crates above, use.
pub mod ClassByCode
pub mod AtomsLaws
pub mod FormLaws
pub mod HashLaws
pub mod HashComposes
mod ScanCode
pub mod FieldsCode
pub mod MarkLaws
pub mod ChainCode
pub mod TextClassLaws
pub mod TextCode
mod AtomPutCode
pub mod TableStays
pub mod SearchCode
pub mod TableFindCode
mod ChainPutCode
pub mod TableEnterCode
pub mod TableMarks
