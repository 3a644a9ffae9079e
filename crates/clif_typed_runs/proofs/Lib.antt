pub mod Holding
pub mod Outcomes
pub mod ScriptSteps
pub mod FunctionSteps
pub mod HoldingBytes
