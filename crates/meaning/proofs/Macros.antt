-- Macro expansion keeps what a tree derives.
pub mod TreeRounds
pub mod Machine
pub mod Reader
pub mod Sources
pub mod Certificate
pub mod Replacing
pub mod Arguments
pub mod Expanding
pub mod Draining
pub mod Rounding
