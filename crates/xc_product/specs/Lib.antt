pub mod Bounds
pub mod Parts
pub mod Heights
pub mod Products
pub mod Faults
pub mod Lawful
pub mod Laws
