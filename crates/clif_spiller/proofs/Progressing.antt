-- How a function is rewritten instruction by instruction and block by block.
pub mod Members
pub mod Homes
pub mod Using
pub mod States
pub mod Changes
pub mod Steps
pub mod Leading
pub mod Writing
pub mod Stepping
pub mod Parameters
pub mod Blocks
pub mod Rewriting
pub mod Finishing
pub mod Ending
