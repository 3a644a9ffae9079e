pub mod Laws
pub mod SwitchOrder
pub mod Examples
