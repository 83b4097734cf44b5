-- Laws of the calls; EntryMeans has what the contract of normalize_whole says of the bytes handed in and written.
mod CallsCode
pub mod EntryMeans
