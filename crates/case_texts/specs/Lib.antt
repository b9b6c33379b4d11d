pub mod Changes
pub mod Expectations
pub mod Sources
pub mod Tallies
