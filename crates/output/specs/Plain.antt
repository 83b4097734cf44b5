-- How an answer is given.
pub mod Answers
