-- The passes on trees, in the order of document 01, and the calls.
pub mod Outcome
pub mod Views
pub mod Grades
pub mod Resolve
pub mod Levels
pub mod Macros
pub mod Stages
pub mod Passes
pub mod Sizes
pub mod Calls
pub mod Range
