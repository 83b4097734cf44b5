-- What the contracts of octets, and of every crate above it, cite: plain for a reader of the exported contracts, working for what the code knows on the way.
pub mod Plain
pub mod Working
