-- What the contracts of this crate cite.
pub mod Grammar
pub mod Reading
pub mod Script
pub mod Explanation
pub mod Reader
pub mod Texts
pub mod Operands
