pub mod Behind
pub mod Finding
pub mod GeneratedFiles
pub mod Reporting
