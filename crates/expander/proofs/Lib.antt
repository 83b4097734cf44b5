-- Laws of a round's ground, of what stands there, and of the functions that note, number and replace. Assumes nothing.
pub mod GroundLaws
pub mod StageReads
pub mod HeldLists
mod RecordsLaws
mod FindCode
mod FindKeyCode
pub mod SlotsCode
pub mod NamedTexts
pub mod NamesStay
pub mod NamesLaws
mod SlotsNextCode
mod SlotsNamesCode
mod SlotsNumberCode
mod SlotsNumbered
mod NoteLaws
mod NotePushCode
mod NoteHeldCode
mod NoteMeans
mod NoteSlotCode
mod NoteCode
-- NodeCodes: a command by its code; KnownCodes: one that is known. KeysPlaces: the places of what is expanded. WalksMean: items that were read are turns of the run.
pub mod NodeCodes
pub mod KnownCodes
pub mod KeysPlaces
mod WalksParts
pub mod WalksMean
pub mod KeysLaws
mod NotedKeys
mod MeetLaws
mod MeetCode
mod ReplaceLaws
mod ReplaceCode
mod ReplaceListCode
pub mod HeldStays
mod StageCode
mod StageKeyCode
mod StageMeets
mod StageRunCode
mod StageTurnCode
mod StageNoteTurn
mod StageStart
mod StageLoopCode
