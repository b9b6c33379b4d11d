pub mod Tables
pub mod Blocks
pub mod Formulas
pub mod Texts
pub mod Worded
pub mod Outcomes
pub mod Serving
pub mod Facts
