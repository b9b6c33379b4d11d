pub mod Sound
pub mod Maps
pub mod Laws
pub mod Drafts
pub mod Drafted
pub mod Kept
