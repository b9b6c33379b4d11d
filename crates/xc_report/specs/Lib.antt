pub mod Reports
pub mod Pieces
