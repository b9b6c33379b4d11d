pub mod ViewLines
pub mod LineReading
pub mod Statements
