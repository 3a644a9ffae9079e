-- Lists, runs through states that are so, and what holds of each instruction.
pub mod Lists
pub mod Passing
pub mod Left
