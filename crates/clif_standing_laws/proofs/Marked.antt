-- Unfinished functions under marks: what moves on both sides agrees.
pub mod OpenSources
pub mod MovedAlike
pub mod OpenCalling
pub mod UnmarkedMoves
pub mod MarkedReading
pub mod RecordedReading
pub mod MarkedRow
pub mod ComingCarried
pub mod ComingRow
