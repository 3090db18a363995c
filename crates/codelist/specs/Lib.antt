-- What loading is, without a reader: Text, Codelist, Write, Accepted, Refused. The same computed, in the order of 01: Conditions, Read,
-- Load. Swapped references: Exchange. Views serves the contracts of private functions.
pub mod Text
pub mod Codelist
pub mod Write
pub mod Conditions
pub mod Read
pub mod InFull
pub mod Load
pub mod Accepted
pub mod Refused
pub mod Exchange
pub mod Views
