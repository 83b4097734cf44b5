-- Laws of a levelled tree: Texts has its new texts, Fits its sizes; Extend is on any tree. Assumes nothing.
pub mod Extend
pub mod Graded
pub mod There
pub mod Texts
pub mod Digits
pub mod Few
pub mod Fits
mod FreshCode
mod SettleNameCode
mod SettleLaws
mod SettleNext
mod SettleTable
mod SettleCode
pub mod ExpandMean
pub mod ExpandMeanSorted
pub mod ExpandMeanLeft
pub mod ExpandMeanCode
pub mod StepMeanNames
pub mod StepMean
pub mod StepMeanWrote
mod SmallCode
pub mod WroteLaws
mod LevelsCode
mod WholeMean
mod WholeMeanItem
mod WholeMeanLoop
mod StepCode
