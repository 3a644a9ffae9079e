pub mod Basics
pub mod Memory
pub mod Liveness
pub mod Forward
pub mod Functions
pub mod Examples
