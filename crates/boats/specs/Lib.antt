-- The fleet page: Boats, Report and Fleet say what it is, Promises and Exchange what is promised of it. Walk serves the contracts of private functions.
pub mod InFull
pub mod Boats
pub mod Report
pub mod Fleet
pub mod Promises
pub mod Exchange
pub mod Figures
pub mod Walk
