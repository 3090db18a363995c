-- What the private contracts of the crate speak of.
pub mod Terms
pub mod Table
pub mod Answer
pub mod FirstBad
