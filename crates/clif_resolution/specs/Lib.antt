-- What the contracts of this crate cite.
pub mod Answers
pub mod Entries
pub mod Conditions
pub mod Plans
pub mod Callings
pub mod Errors
