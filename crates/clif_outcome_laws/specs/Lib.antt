pub mod MemoryExamples
pub mod LibraryExamples
pub mod Locality
pub mod Integers
pub mod Orders
pub mod Divisions
pub mod Lanes
pub mod ByteOperationExamples
