pub mod Loads
pub mod Sheets
pub mod Formulas
pub mod Demands
pub mod Validity
pub mod Exchange
pub mod Isotone
