-- What the contracts of validate cite. Whole has what the crates above ask of it.
pub mod Regions
pub mod Steps
pub mod Uses
pub mod Quick
pub mod Front
pub mod Whole
