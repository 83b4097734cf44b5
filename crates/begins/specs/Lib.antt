-- What the laws of begins speak of: the names of levels that levels bring. Assumes nothing: these are definitions.
pub mod Lowers
