pub mod Members
pub mod Edges
pub mod ExceptionTables
pub mod Instruction
pub mod Immediates
pub mod Kept
