-- Laws of rounds: StartMeans has the pile between replacing and appending, CallsMean that macro calls stay as resolving left them, DefineMeans what the cells of macros' names say, PaidMeans
-- that the items of a round pay for its new texts, JudgeMeans 20 and 21 of a stage, ReadyMeans that items which stand can be replaced, StepMeans that rounds are one round after another, RoundBegins what
-- holds of the trees where one begins, RoomMeans the room of its tables. Of a round in work: RoundPlaces, RoundGround and RoundHalf what stands there up to the replacing stage, RoundPile, RoundAppended and RoundBytes
-- up to the appending stage, RoundNext that the next round begins with the same. Assumes nothing.
mod GroundCode
pub mod CallsMean
pub mod ResolvedCalls
pub mod ReadyMeans
pub mod StartTrees
pub mod StartNames
pub mod StartBuilt
pub mod StartPile
pub mod StartMeans
mod JudgeCode
pub mod JudgeMeans
pub mod KeptMeans
pub mod DefineCells
mod DefineItem
pub mod DefineMacro
mod DefineCode
pub mod DefineMeans
pub mod PaidTexts
pub mod PaidItems
pub mod PaidCosts
pub mod PaidPile
pub mod PaidMeans
pub mod PaidRounds
pub mod PaidKeeps
pub mod PaidStarts
pub mod RoundBegins
pub mod LevelsSound
pub mod ResolvedFew
pub mod StepMeans
pub mod RoomNine
pub mod RoomMeans
pub mod RoundPlaces
pub mod RoundStages
pub mod DefinesStay
pub mod RoundSize
pub mod MarksMean
pub mod RoundGround
pub mod LastPushed
pub mod RoundHalf
pub mod Tally
pub mod RoundJudged
pub mod RoundPile
pub mod RoundAppended
pub mod RoundKeys
pub mod RoundBytes
pub mod RoundNext
mod RoundCode
mod RoundAnswers
mod RoundWhole
mod RoundsCode
