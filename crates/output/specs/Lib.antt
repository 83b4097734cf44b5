-- What the contracts of output cite. plain has how an answer is given; working the sizes that are asked, and what is handed over.
pub mod Plain
pub mod Working
