pub mod Functions
pub mod Steps
pub mod Fixpoints
pub mod Iterates
pub mod Heights
pub mod Lists
pub mod Laws
