-- What the proofs of the functions use.
pub mod Pairs
pub mod Operands
pub mod Narrow
pub mod Members
pub mod Validity
pub mod Filling
pub mod Zeros
pub mod Signs
pub mod Heads
pub mod Working
pub mod Factors
pub mod Ranges
pub mod Running
pub mod Starting
pub mod Answers
pub mod Lying
pub mod Reading
