pub mod Matching
pub mod Numerals
pub mod Taking
pub mod Facts
pub mod Agreeing
