-- Commands as values, the table of places, and reading and writing by them.
pub mod Refusals
pub mod Nodes
pub mod Nested
pub mod Places
pub mod Questions
pub mod Expect
pub mod Operands
pub mod Decode
pub mod Encode
pub mod Within
