pub mod Breaking
pub mod Finding
pub mod Lawful
pub mod Unbroken
