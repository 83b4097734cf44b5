-- Laws of the items of pushed symbols. Assumes nothing.
pub mod PoppedLaws
pub mod ItemPieces
pub mod BeginCode
pub mod ItemTrees
pub mod LookCode
pub mod RepeatTrees
pub mod RepeatCode
pub mod PushTrees
pub mod PushCode
pub mod StarTrees
pub mod StarCode
pub mod ChoiceCode
mod AnalyzeCode
pub mod GroupTrees
mod GroupCode
mod ArgumentsCode
pub mod FrameLaws
mod PutInCode
pub mod PutInNamed
pub mod PutInPlain
mod PutInArgument
mod ExpandTrees
mod ExpandSymbol
mod ExpandCode
mod ExpandListCode
mod AlternativesTrees
mod AlternativesCode
mod ConditionsMean
mod AlternativesSteady
mod AlternativesListCode
mod HoldMean
pub mod CallCode
mod MacroCode
pub mod PileStays
pub mod KeyCodes
pub mod DrainLaws
mod PileStands
mod PushedCode
mod DrainCode
