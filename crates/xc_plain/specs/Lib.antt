pub mod Successors
pub mod Told
pub mod Settled
pub mod Nodes
pub mod Tables
