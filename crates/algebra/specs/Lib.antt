-- Commutative rings, ordered rings, sums and vectors over them, and fractions of integers: the definitions. Their laws and the solvers are
-- in proofs/.
pub mod Ring
pub mod Ordered
pub mod Sum
pub mod Vectors
pub mod Frac
