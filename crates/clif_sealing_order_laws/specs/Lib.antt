pub mod Order
pub mod Attempts
pub mod CallOrder
pub mod CallAttempts
pub mod Laws
pub mod Examples
pub mod EmittingExamples
