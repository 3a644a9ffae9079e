pub mod Plan
pub mod Outside
pub mod Tables
pub mod Memory
