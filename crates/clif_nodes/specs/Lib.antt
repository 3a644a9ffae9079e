pub mod Aliases
pub mod Links
pub mod Nodes
pub mod Packed
pub mod Places
