pub mod Constants
pub mod Plans
