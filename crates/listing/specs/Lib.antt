-- Listing has the definition; what the functions inside say stands beside it: Tree of the parts of the text, Walk of what is read in work.
pub mod Listing
pub mod Tree
pub mod Walk
pub mod Whole
