-- What the laws of this crate cite.
pub mod SwitchCalls
pub mod SwitchLaw
pub mod SwitchSizes
pub mod SwitchCallExamples
