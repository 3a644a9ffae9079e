-- What the contracts of this crate cite.
pub mod Words
pub mod Cursor
pub mod Spelling
pub mod Errors
