pub mod Facts
pub mod Joining
pub mod Keeping
pub mod Rising
pub mod Settling
pub mod Stepping
pub mod Tabling
pub mod Telling
