-- Formulas as members write them (02, request 12). What a formula is: Grammar; where a text that is none goes wrong: Viable; what a formula is worth:
-- Value; what it becomes: Convert. The same computed: Read, Load. What is promised: Exactly. The program: Answer, Prints. Views serves the contracts of private functions.
pub mod Grammar
pub mod Viable
pub mod Units
pub mod Value
pub mod Convert
pub mod Read
pub mod InFull
pub mod Load
pub mod Exactly
pub mod Answer
pub mod Prints
pub mod Figures
pub mod Views
