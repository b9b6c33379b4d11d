pub mod Rows
pub mod Telling
pub mod Lattices
pub mod Framed
pub mod Machined
pub mod Facts
