-- The nearest edge of a class: the definitions in 02's order, what is promised of them, the committee's law of them, figures, and what the code holds.
pub mod InFull
pub mod Edge
pub mod Promises
pub mod Exchange
pub mod Figures
pub mod Search
