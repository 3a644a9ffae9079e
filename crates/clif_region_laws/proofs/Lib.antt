pub mod Running
pub mod Places
pub mod Bodies
