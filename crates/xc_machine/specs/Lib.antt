pub mod Descent
pub mod Judging
pub mod Machines
pub mod Places
pub mod AsFrame
