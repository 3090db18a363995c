-- Laws of the readers and of both forms of the list, and the parts of the answer
pub mod Reading
pub mod Flat
pub mod Answering
pub mod Cut
pub mod Promises
pub mod Exchange
