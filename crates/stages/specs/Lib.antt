-- What the contracts of the stages cite: a tape resolved in work, levels written behind it, rounds of macros run there, and all three passes one after another.
pub mod Stages
pub mod Clearing
pub mod Levelling
pub mod Expanding
pub mod Whole
pub mod Follows
mod FollowsLaws
pub mod Passes
