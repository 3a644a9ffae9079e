-- What is recorded for stack maps, on paths.
pub mod Steps
pub mod Making
pub mod Giving
pub mod Coming
pub mod TrackedNames
pub mod Agreeing
pub mod Unrecorded
