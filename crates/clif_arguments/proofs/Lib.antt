mod Taking
mod TakingTables
mod Scopes
mod Headers
pub mod Offsets
