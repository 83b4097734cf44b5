-- Numbers in bytes, and runs of bytes.
pub mod Numbers
pub mod Runs
