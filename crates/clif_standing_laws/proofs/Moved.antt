-- The worked example of a parameter that moves at an outside call.
pub mod MovedRow
pub mod MovedPremises
pub mod MovedRuns
pub mod MovedStands
