pub mod MapFiles
pub mod Deciding
