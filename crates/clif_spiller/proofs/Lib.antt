-- What the proofs of this crate share.
pub mod Keeping
mod Giving
mod Putting
mod Sizes
mod Members
mod Reading
mod Shapes
mod Passing
mod Inside
mod Starting
mod Reached
mod Allocating
pub mod Advancing
mod Acting
mod Needing
mod Parts
mod Operands
mod Edges
mod Contexts
mod Storing
mod StackMaps
mod Waiting
mod Landed
mod Text
mod Progressing
mod Asked
