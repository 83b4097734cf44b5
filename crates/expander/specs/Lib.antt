-- What the contracts of expander cite: a round's ground in work, what stands there, and what is found, noted and replaced.
pub mod Ground
pub mod Entries
pub mod Held
pub mod Names
pub mod Find
pub mod Note
pub mod Replace
pub mod Meet
pub mod Stage
