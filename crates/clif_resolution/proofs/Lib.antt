pub mod Options
pub mod Found
pub mod Planning
