-- Laws of writing behind what is written so far, of printed forms of symbols that stand in work, and of the new texts of a round: NameCode of code, NameLaws of what stays, NameMean of what was written. Assumes nothing.
pub mod PutLaws
mod PutCode
pub mod WordsLaws
mod WordsCode
pub mod PrintLaws
mod PrintCode
mod PrintTexts
mod PrintListCode
mod PrintSymbolCode
mod CopiedStays
mod CopiedCode
mod CopiedTrees
mod CopiedPutCode
mod CopiedLoop
mod AtomCode
pub mod AtomMean
mod BuiltCode
mod OneCode
mod OnePutCode
mod OneWriteCode
pub mod NewLaws
mod CountCode
mod SettleStays
mod SettleLaws
mod SettleSaid
mod SettleNext
mod SettleGrow
mod WidenCode
mod SettleCode
mod PushedCode
pub mod PushedMean
mod PushedAllCode
