-- What the contracts of the calls cite.
pub mod Calls
