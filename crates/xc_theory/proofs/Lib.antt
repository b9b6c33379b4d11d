pub mod Codes
pub mod Ranges
pub mod Bounds
pub mod Orders
pub mod Chains
pub mod Facts
