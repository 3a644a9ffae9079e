pub mod TryTables
pub mod Unused
pub mod Serving
