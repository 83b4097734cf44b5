-- What the contracts of appending cite: the numbers of built-in texts, pieces of items that are appended, symbols and commands among them.
pub mod Built
pub mod Pieces
pub mod Symbols
pub mod Commands
