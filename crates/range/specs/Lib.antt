-- 01, "Range arithmetic", in its order: Limit, Arithmetic, Power, Sums; and 02's Star. Apart from these, Steps: what private functions give. Then
-- what is proved of the operations: Inclusion (what they mean for the numbers inside), Laws, Rounding (squares rounded once), Figures.
pub mod Limit
pub mod Arithmetic
pub mod Power
pub mod Sums
pub mod Star
pub mod Steps
pub mod Inclusion
pub mod Laws
pub mod Rounding
pub mod Figures
