-- The other rows of the worked examples.
pub mod NothingCalled
pub mod RecordsListed
pub mod HalfRow
pub mod HalfRowAlong
pub mod EarlyJump
pub mod SamplePremises
pub mod ParameterRow
pub mod RecordingRow
pub mod CallRow
pub mod SecondRow
pub mod TrackedMoves
pub mod TrackedRow
