-- The row `both_arms`, which has a loop.
mod LoopTables
pub mod LoopProgram
mod LoopDescribed
mod LoopStructured
mod LoopTracked
pub mod LoopWrong
pub mod LoopArgument
pub mod LoopRow
pub mod LoopMarked
pub mod LoopConsistent
pub mod LoopAlong
pub mod LoopPremises
pub mod LoopWaiting
pub mod LoopPassing
