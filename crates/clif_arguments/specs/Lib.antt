-- What the contracts of this crate cite.
pub mod Arguments
pub mod Taking
pub mod Given
pub mod Scope
pub mod Header
