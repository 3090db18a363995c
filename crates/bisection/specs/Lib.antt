-- Classes cut finer: the definitions in 02's order, what is promised of them, the committee's two laws of them, figures, and what the code holds.
pub mod InFull
pub mod Cut
pub mod Promises
pub mod Exchange
pub mod Deeper
pub mod Figures
pub mod Box
