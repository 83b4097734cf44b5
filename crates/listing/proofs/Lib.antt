-- What the proofs of several functions use: NameCode of code, NameLaws of lists, NameMean of what stands in work.
mod RefusedCode
mod HeadCode
mod ActionCode
pub mod WalkLaws
mod AlternativeMean
mod AlternativeCode
mod ItemMean
mod ItemCode
mod TreeCode
mod WholeCode
