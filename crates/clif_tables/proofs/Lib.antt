mod Absent
-- What an instruction that calls nothing is given.
pub mod Given
mod InPlace
mod LineByLine
-- What the entries of tables name goes on existing.
pub mod NamedEntries
mod Positions
mod Pooling
