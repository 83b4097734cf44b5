-- Choices, stores and the counting writer, as the code has them.
pub mod Choice
pub mod Stores
pub mod Sink
