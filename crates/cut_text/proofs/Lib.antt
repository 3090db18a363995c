-- the first line, and the answer put together
pub mod FirstLine
pub mod Answering
-- specs/Promises
pub mod Lengths
pub mod Promises
-- specs/Exchange
pub mod Exchange
