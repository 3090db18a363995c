-- the loop over the numerals of the boat lines, and the answer put together
pub mod Reading
pub mod Answering
-- specs/Promises
pub mod Fields
pub mod Lengths
pub mod Promises
-- specs/Exchange
pub mod Exchange
