-- The program's input and output as functions of its bytes, in the order of 01: Input, Output, Answer. Faithful says what the output tells, Exchange what it does not.
-- Boxes and InFull say what the code's values stand for.
pub mod Input
pub mod Output
pub mod Answer
pub mod Faithful
pub mod Exchange
pub mod Boxes
pub mod InFull
