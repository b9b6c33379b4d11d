pub mod Operations
pub mod Products
pub mod Bounds
pub mod Laws
pub mod Tables
pub mod OpTables
pub mod AnyTables
