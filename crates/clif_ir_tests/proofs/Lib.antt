pub mod JumpTables
pub mod TryTables
