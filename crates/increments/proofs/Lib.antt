-- the code: division by a shift, the sums, and whether both boats are of the class
pub mod Shifting
pub mod Totals
pub mod Outside
pub mod Answers
-- specs/Promises
pub mod Points
pub mod Cases
pub mod Refusals
pub mod Rounded
pub mod Exchanging
pub mod Promises
-- specs/Exchange
pub mod Exchange
