-- 02, request 1: which lines are used, the codelist without the others, the call that writes it and its table of refusals, what is promised, and
-- figures. Request 11: swapped references. Views serves the contracts of private functions.
pub mod Used
pub mod Tidied
pub mod InFull
pub mod Tidy
pub mod Refusals
pub mod Promises
pub mod Exchange
pub mod Figures
pub mod Views
