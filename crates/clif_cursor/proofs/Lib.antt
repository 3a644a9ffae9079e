pub mod Appended
pub mod Taken
