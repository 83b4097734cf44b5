-- Laws of what is handed over: RoomCode has the sizes, PuttingCode texts put, HandOverCode and ExpandedCode trees.
mod RoomCode
mod HandOverCode
mod PuttingCode
pub mod ExpandedCode
