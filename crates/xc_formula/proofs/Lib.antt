pub mod Facts
pub mod FormulaReading
pub mod Implications
pub mod NameReading
pub mod NameSteps
pub mod ParserSteps
