pub mod Merges
pub mod Projections
pub mod MergedFrames
pub mod Pieces
pub mod Faults
pub mod Merging
pub mod Finding
