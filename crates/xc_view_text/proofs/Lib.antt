pub mod Printing
pub mod Restating
pub mod Again
pub mod Rereading
