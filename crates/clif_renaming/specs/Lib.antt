pub mod Renaming
pub mod Sealing
pub mod CallsSealing
pub mod Laws
pub mod Examples
