pub mod Variables
pub mod VariableNames
pub mod VariableLines
pub mod VariableReading
pub mod FaultlessLines
pub mod PrintedLines
pub mod ByKind
