pub mod Bits
pub mod Joining
pub mod Marks
pub mod Next
pub mod Runs
pub mod Spans
pub mod Unions
pub mod Within
