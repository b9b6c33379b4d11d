pub mod Placing
pub mod Moving
