pub mod Bounded
pub mod Breaks
pub mod Lawful
pub mod Tables
pub mod Tuples
