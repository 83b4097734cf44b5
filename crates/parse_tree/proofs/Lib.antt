-- What the proofs of several functions, and of the crates above, use.
-- One command:
pub mod NodeFits
pub mod SpanLaws
pub mod FieldLaws
pub mod NodeSays
pub mod NodeBack
mod NodeCode
mod PlacesCode
pub mod SizeLaws
pub mod CodeSizes
pub mod NestedCode
-- Trees and their tapes; RoundTrip has the theorems.
pub mod DisplayLaws
pub mod TextLaws
pub mod AmongLaws
pub mod ReadingLaws
pub mod Asking
pub mod Expecting
pub mod SymLists
pub mod ToCommands
pub mod ItemBack
pub mod ReadBack
pub mod FromCommands
pub mod ItemFound
pub mod Written
pub mod NothingNew
pub mod RoundTrip
pub mod ReadCommandIs
pub mod ReadSymbolIs
pub mod ReadTapeIs
pub mod WriteTapeIs
mod Cases
