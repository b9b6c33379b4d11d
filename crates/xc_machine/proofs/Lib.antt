pub mod Judging
pub mod Descending
pub mod Beginnings
pub mod Encoding
pub mod Framing
pub mod AsFrame
pub mod Facts
