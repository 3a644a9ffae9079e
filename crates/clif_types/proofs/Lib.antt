pub mod Marks
pub mod RisingSets
mod FromLast
