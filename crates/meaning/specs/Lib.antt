-- What a tree derives, and what demand 3 asks of it.
pub mod Phrases
pub mod Meaning
pub mod Premises
pub mod Spans
