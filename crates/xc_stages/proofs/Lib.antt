pub mod Chaining
pub mod Given
pub mod Loading
pub mod Merging
pub mod Opening
pub mod Reading
