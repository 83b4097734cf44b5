-- What the laws speak of, beside the definitions of parse_tree and passes.
pub mod Keys
pub mod Flat
pub mod Patch
pub mod Sort
pub mod Names
pub mod Counts
pub mod Rename
