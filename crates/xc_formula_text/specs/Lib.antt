pub mod Texts
pub mod FormulaFiles
pub mod Deciding
pub mod Printing
pub mod Rereading
pub mod Laws
