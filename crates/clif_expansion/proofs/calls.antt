-- The theorem on calls of a script: how it follows from the one on their plain calls.
pub mod Blocks
pub mod Deciders
pub mod Premises
pub mod Types
pub mod Given
pub mod Headline
pub mod Verdicts
pub mod Alone
pub mod HeadlineExamples
