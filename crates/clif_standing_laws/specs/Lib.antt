pub mod Laws
pub mod Marked
pub mod MarkedExamples
pub mod MarkedComingExamples
pub mod MovingExamples
pub mod RecordedExamples
