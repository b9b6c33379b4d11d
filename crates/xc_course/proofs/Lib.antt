pub mod Once
pub mod Existence
pub mod Facts
pub mod Working
