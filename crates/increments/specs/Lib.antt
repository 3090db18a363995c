-- Two boats of one class: the call, what is promised of it, its figures, and what the code holds.
pub mod InFull
pub mod Call
pub mod Promises
pub mod Exchange
pub mod Figures
pub mod Steps
