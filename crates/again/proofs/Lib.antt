-- Laws of again: ListRun is the run over commands, ListMean that it meets the items, ListCode the ways through `list_items`; WholeMean what stands between listing and resolving, WholeCode the ways out of `resolve_again`. Assumes nothing.
pub mod ListRun
pub mod ListMean
mod ListCode
pub mod WholeMean
mod WholeCode
