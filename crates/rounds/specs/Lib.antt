-- What the contracts of rounds cite: macro calls as resolving leaves them, a round's ground, what stands in work between its stages, its sizes, the cells of macros' names; and what a new text costs.
pub mod Calls
pub mod Start
pub mod Grounds
pub mod Judge
pub mod Define
pub mod Paid
pub mod Begins
pub mod Step
pub mod Steps
pub mod Standing
pub mod Round
