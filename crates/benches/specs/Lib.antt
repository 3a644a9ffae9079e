pub mod Variables
pub mod Cases
