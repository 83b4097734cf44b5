-- Resolving keeps what a tree derives.
pub mod Globals
pub mod Lookups
pub mod ResolvedMeaning
pub mod Alike
pub mod ResolvedSteps
