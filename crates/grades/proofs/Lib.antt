-- What the proofs of several functions use: NameCode of code, NameLaws of lists, NameMean of what the definitions that follow the code mean.
pub mod IdsMean
pub mod AnnotationsCode
mod AnnotationsMean
mod GradeCode
pub mod WordsCode
mod GradingCode
pub mod WordedLaws
mod KeyCode
mod AlternativesCode
pub mod AlternativesMean
mod GradingMean
pub mod AlternativesLaws
pub mod AscendsMean
pub mod AlternativesStored
pub mod AlternativesWholeMean
pub mod KeysMean
pub mod LowestMean
pub mod DecimalLaws
mod DecimalCode
pub mod SortLaws
mod SortCode
mod SortRunsCode
mod SortMean
mod SortWholeCode
mod SortGroupCode
mod SkipCode
pub mod CodesMean
pub mod SkipMean
