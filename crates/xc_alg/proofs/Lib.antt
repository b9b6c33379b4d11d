pub mod AlgebraLaws
pub mod Pairs
pub mod Parts
pub mod Products
pub mod Tables
pub mod Literals
pub mod Facts
