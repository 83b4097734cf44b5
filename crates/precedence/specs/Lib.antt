-- What the contracts of precedence cite. They follow the code on the list of bytes that work is; what they mean on trees is proved in proofs/*Mean.antt.
pub mod Level
pub mod Names
pub mod Substitute
pub mod Write
