pub mod Program
pub mod Rows
