-- What the contracts of grades cite. They follow the code on the list of bytes that work is; what they mean on trees is proved in proofs/*Mean.antt.
pub mod Alternatives
pub mod Annotations
pub mod Grade
pub mod Grading
pub mod Ids
pub mod Key
pub mod Skip
pub mod Sort
