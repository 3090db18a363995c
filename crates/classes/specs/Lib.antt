-- Four classes on one desk, in the order of 02, request 13: the classes by their numbers: Classes, Found. The calls: Calls, with
-- their answers in full: InFull, EdgeInFull. That loads of one class leave the others
-- alone, and what a list of loads leaves: Apart. The three demands, class by class: Demands. Swapped references: Exchange.
pub mod Classes
pub mod Found
pub mod InFull
pub mod EdgeInFull
pub mod Calls
pub mod Apart
pub mod Demands
pub mod Exchange
pub mod Edge
