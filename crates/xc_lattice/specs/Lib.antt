pub mod Deciding
pub mod Drafts
pub mod LatticeFiles
pub mod Laws
pub mod Printed
pub mod Rooms
pub mod Stops
pub mod Values
