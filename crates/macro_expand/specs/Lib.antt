-- What the contracts of macro_expand cite: the item of a symbol that was taken off the pile, by what the symbol is, and the whole pile.
pub mod Expand
pub mod Repeat
pub mod NormUtil
pub mod Group
pub mod Arguments
pub mod PutIn
pub mod Alternatives
pub mod Call
pub mod Macro
pub mod Drain
