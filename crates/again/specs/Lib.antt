-- What the contracts of again cite: the list of items' places, and resolving again.
pub mod List
pub mod Whole
