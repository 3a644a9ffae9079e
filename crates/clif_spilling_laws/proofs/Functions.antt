-- What is known of functions: their runs fit types, they give each value once, and their edges match.
pub mod Typed
pub mod GivenOnce
pub mod Matching
pub mod Inside
