pub mod Unassigned
pub mod Laws
pub mod Examples
