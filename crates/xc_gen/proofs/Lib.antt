pub mod Rows
pub mod Names
pub mod FirstRows
pub mod Lattices
pub mod UsedViews
pub mod Facts
