pub mod Names
pub mod Machines
pub mod Answers
pub mod Staying
pub mod Shown
pub mod Row
pub mod Courses
