-- A finished function that carries calls means what their program means.
pub mod Giving
pub mod TwoParts
pub mod InLists
pub mod Agreement
pub mod Entered
pub mod Straight
pub mod OperandTypes
pub mod Entry
pub mod ItemsAt
pub mod OwnEdges
pub mod Flow
pub mod IntoBlock
mod Edges
pub mod Placing
pub mod ZeroInsts
pub mod Fronts
pub mod Targets
pub mod Matching
pub mod Sources
pub mod Calling
pub mod Stepping
pub mod Starting
pub mod Assembly
