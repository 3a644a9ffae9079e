-- Proofs of this crate.
mod Lines
mod Chains
mod Pieces
mod Loads
mod LibraryCalls
mod Stopped
mod Plans
mod Helped
pub mod HelperLines
pub mod StandingForCalls
pub mod HelperSizes
