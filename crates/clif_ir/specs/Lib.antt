pub mod Body
pub mod Changes
pub mod Entries
pub mod Consistent
pub mod Whole
pub mod Reading
pub mod Lends
