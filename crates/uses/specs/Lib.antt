pub mod Choosing
pub mod Importing
