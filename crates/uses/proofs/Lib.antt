pub mod Lasting
pub mod Cases
