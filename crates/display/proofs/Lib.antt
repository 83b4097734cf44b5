-- Laws of printed forms of symbols that stand in work. Assumes nothing.
pub mod MetLaws
pub mod StandsLaws
pub mod MeetCode
pub mod FollowCode
pub mod FormLaws
mod FormCode
mod SymbolCode
mod ListCode
pub mod SinkLaws
pub mod TakenLaws
mod SinkCode
pub mod SinksLaws
pub mod WindowLaws
mod WindowCode
mod WindowSeen
mod WindowBound
mod WindowSame
mod ShapeLaws
mod ShapeCode
