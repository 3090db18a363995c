-- Laws of texts in lent bytes, of a number's digits and sign, and of their lengths
pub mod Writing
pub mod Digits
pub mod Signs
pub mod Lengths
