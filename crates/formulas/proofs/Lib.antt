-- The readers, and what they find against the grammar
pub mod Readers
pub mod Grammatical
pub mod Complete
pub mod Exactly
-- What formulas become: refusal 20, and lines of numerals
pub mod Conversions
pub mod Mixing
pub mod Numbers
pub mod Spelled
-- What loading makes of the lines, and what they are worth
pub mod Loading
pub mod LineValues
pub mod Worth
-- specs/Exactly
pub mod Promises
-- The code: digits, lines, the readers' steps, and the sheet
pub mod Laws
pub mod Digits
pub mod WrittenLines
pub mod ReaderSteps
pub mod Sheets
pub mod Answers
pub mod Printed
