-- The laws of what specs/ defines. A module passes on the definitions that its laws are about, under the same module name.
pub mod Div
pub mod DivSum
pub mod Machine
pub mod Sqrt
pub mod Rat
pub mod Units
pub mod Archimedean
