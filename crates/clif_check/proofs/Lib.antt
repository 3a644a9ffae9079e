pub mod Pairs
pub mod Walks
pub mod Pieces
pub mod Calls
pub mod Errors
pub mod Law
