pub mod Printing
pub mod PrintSteps
pub mod Writable
pub mod LineParts
pub mod PrintedTexts
pub mod PrintLaws
