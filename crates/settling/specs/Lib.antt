-- What the contracts of settling cite: where texts stand that are written to another place of work, printed forms of symbols that are, and the new texts of a round counted, written and marked.
pub mod Put
pub mod Escape
pub mod Print
pub mod Copied
pub mod Atom
pub mod One
pub mod Settle
pub mod Pushed
