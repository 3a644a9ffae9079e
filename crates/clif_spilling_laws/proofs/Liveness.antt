-- What is live at the places of a well placed function.
pub mod Reached
pub mod LivePaths
pub mod SpilledLive
