pub mod Keys
pub mod Written
