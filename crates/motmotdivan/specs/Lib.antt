-- The two calls of a program in C, in the order of 02, requests 10 and 13: doubles in bytes, and which whole numbers they are: Doubles. The records of ranges
-- and of results: Record. The codes, and what a call leaves in the bytes of a class: Calls. The desk of four classes: Desk. What is promised of all this:
-- Quoting of the bytes of one class, ApartBytes of the desk, and Exchange. Figures of doubles: Figures. For private contracts: Views.
pub mod Doubles
pub mod Record
pub mod Calls
pub mod Desk
pub mod Quoting
pub mod ApartBytes
pub mod Exchange
pub mod Figures
pub mod Views
