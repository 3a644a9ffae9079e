pub mod WellTyped
pub mod Texts
