-- The passes as one, the calls and their bytes.
pub mod Staged
pub mod Agreement
pub mod Tapes
pub mod Spans
pub mod RoundSpans
pub mod Atoms
pub mod Output
pub mod Demand3
pub mod OnBytes
