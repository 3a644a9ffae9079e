-- The slots that the spiller takes and frees: none is shared, each has the size of its value, and there are few.
pub mod Lists
pub mod States
pub mod Sized
pub mod Sharing
pub mod Holding
pub mod Places
pub mod Orders
pub mod Opening
pub mod Covering
pub mod KeptOpen
pub mod Walking
pub mod Bridging
pub mod Blocks
pub mod Ending
pub mod Consistent
pub mod Acting
