-- What the proofs of several functions, and of the crates above, use.
pub mod ChoiceLaws
pub mod NumbersLaws
pub mod StoreLaws
pub mod PartLaws
pub mod LiesLaws
pub mod SameLaws
mod SinkCode
pub mod RunsCopyCode
