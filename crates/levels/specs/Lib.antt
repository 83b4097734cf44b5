-- What the contracts of levels cite. Names has the names that a levelled tree brings; Expand and Whole what is written of one nonterminal and of a grammar; Fresh the names' bytes; Settle the names settled in work.
pub mod Names
pub mod Expand
pub mod Whole
pub mod Fresh
pub mod Settle
