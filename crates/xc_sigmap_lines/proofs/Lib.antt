pub mod Tokens
pub mod Pairs
pub mod Facts
pub mod Deciding
