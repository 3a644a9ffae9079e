pub mod TryTables
pub mod RowTables
