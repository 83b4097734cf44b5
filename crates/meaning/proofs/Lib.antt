-- Demand 3: calls.Demand3 has it over trees, calls.OnBytes on the bytes of the call for all; Needed shows that its premises are needed.
pub mod Basics
pub mod Predicates
pub mod Idents
pub mod Simulation
pub mod Resolving
pub mod Levels
pub mod Macros
pub mod Calls
mod Never
pub mod Needed
