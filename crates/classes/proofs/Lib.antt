pub mod Numbers
pub mod Called
pub mod Outcomes
pub mod Apart
pub mod Demands
pub mod Exchange
pub mod Edge
