pub mod Laws
pub mod Functions
pub mod FittingExamples
