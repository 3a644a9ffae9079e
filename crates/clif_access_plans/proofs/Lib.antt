pub mod Powers
pub mod Repeated
