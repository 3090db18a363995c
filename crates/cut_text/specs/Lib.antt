-- The program's input and output as functions of its bytes: Input, Output, Answer. Promises and Exchange say what is promised of them;
-- Views is for private contracts.
pub mod Input
pub mod Output
pub mod Answer
pub mod Promises
pub mod Exchange
pub mod Views
