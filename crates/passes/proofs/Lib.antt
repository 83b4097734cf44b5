-- Laws of outcomes, and what each call can refuse with.
pub mod Outcomes
pub mod RangeOfPasses
pub mod RangeOfReading
pub mod Range
-- Computed cases.
mod Asked
pub mod Build
mod StarredTrees
mod Starred
mod Chosen
pub mod ResolveKeeps
pub mod ResolveWithin
pub mod MacrosKeep
