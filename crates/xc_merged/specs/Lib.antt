pub mod Elements
pub mod Gathering
pub mod Joins
pub mod Tabled
pub mod Seeing
pub mod Gathered
pub mod Digits
