-- The run with stores and reloads simulates the one before.
pub mod Relation
pub mod Entering
pub mod Edges
pub mod Following
pub mod CallShapes
pub mod Calling
pub mod Stepping
pub mod Simulating
