-- What the contracts of texts, and of the crates above it, cite.
pub mod Atoms
pub mod Classes
pub mod Hash
pub mod Forms
pub mod Scan
pub mod Fields
pub mod Marks
pub mod Texts
pub mod Table
pub mod Search
