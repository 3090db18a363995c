-- The answers in full, the state between calls, the three demands of what its calls give, and the committee's two laws.
pub mod InFull
pub mod Engine
pub mod Refusals
pub mod Demands
pub mod Exchange
pub mod Isotone
