pub mod Written
pub mod FormulaReading
pub mod Reading
pub mod Laws
