-- The worked examples.
pub mod Parts
pub mod Straight
pub mod Worlds
pub mod TryCall
pub mod Moved
pub mod SlotReuse
pub mod Landings
pub mod TableItems
pub mod Uncounted
pub mod Loop
