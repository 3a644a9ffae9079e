pub mod calls
pub mod Functions
pub mod SwitchOrder
pub mod Emitting
