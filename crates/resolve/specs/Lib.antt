-- What the contracts of resolve cite. Whole has what the pass ensures, by the definitions of passes; what it asks is `Standing` of Items. The
-- others follow the code on the list of bytes that work is: what they mean on trees is proved in proofs/*Mean.antt, and a reader needs none of them.
pub mod Cells
pub mod Names
pub mod Commands
pub mod Items
pub mod Globals
pub mod Whole
