pub mod Loops
pub mod Parts
pub mod Serving
pub mod Writing
