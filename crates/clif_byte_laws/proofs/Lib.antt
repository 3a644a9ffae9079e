pub mod Indices
pub mod Whole
pub mod Within
pub mod Compared
