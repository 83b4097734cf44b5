-- What the proofs of several functions use: NameCode of code, NameLaws of lists, NameMean of what the definitions that follow the code mean.
pub mod NamesCode
pub mod NamesHashCode
pub mod NamesFindCode
pub mod NamesStays
mod NamesDescribeCode
pub mod NamesMean
mod SubstituteCode
mod SubstituteRuns
mod SubstituteMean
pub mod WriteLaws
mod ShortCode
pub mod WriteCode
mod WriteWholeCode
pub mod WriteMean
mod WriteCountMean
mod WriteWholeMean
mod LevelCode
pub mod LevelStays
mod LevelKeyCode
mod LevelKeysCode
mod LevelWholeCode
mod LevelMean
pub mod LevelKeysMean
pub mod LevelWholeMean
pub mod GroupMean
pub mod LeadMean
