pub mod MemoryRows
pub mod Local
pub mod Widths
pub mod Order
pub mod Division
pub mod VectorLanes
