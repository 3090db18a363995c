-- Exact numbers: rounded division of integers and rounded square roots, the rational numbers ℚ, and numbers of units of 1/10,000.
pub mod Div
pub mod Sqrt
pub mod Rat
pub mod Units
