pub mod Generated
pub mod Naming
pub mod Links
