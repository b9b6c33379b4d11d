pub mod Courses
pub mod FileKinds
pub mod Given
pub mod Items
pub mod Laws
pub mod Loads
pub mod Trees
pub mod Works
