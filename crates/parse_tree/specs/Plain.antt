-- The tree, texts, printed forms, and a tape read and written.
pub mod Tree
pub mod Texts
pub mod Display
pub mod References
pub mod Reading
pub mod WriteTape
pub mod ReadTape
