-- The laws of rings and ordered rings, the solver of ring identities (`Solver.ring`, over `Poly`), linear arithmetic (`Linear.linarith`,
-- over `Search`), sums, Cauchy–Schwarz and quadratic forms; derivatives of functions of one number, and that what bounds them bounds the
-- function; the integers, which are an ordered ring, and fractions of them. A module passes on the definitions of specs/ that its laws are
-- about.
pub mod Ring
pub mod Poly
pub mod Solver
pub mod Ordered
pub mod Search
pub mod Linear
pub mod Sum
pub mod Dot
pub mod Vectors
pub mod Form
pub mod Restricted
pub mod Moments
pub mod Derivatives
pub mod Archimedean
pub mod MeanValue
pub mod Int
pub mod Frac
mod Examples
