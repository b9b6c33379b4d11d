pub mod Tokens
pub mod Commands
pub mod Expressions
pub mod LineReading
