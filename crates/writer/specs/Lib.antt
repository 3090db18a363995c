-- Texts put into lent bytes: what the functions write, and how it gets into the bytes.
pub mod Texts
pub mod Lent
