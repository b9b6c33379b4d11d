pub mod Codes
pub mod Orders
pub mod Bounds
pub mod Lattices
pub mod Chains
pub mod Laws
