-- What the spiller writes around instructions, as the law of spilling has it.
pub mod Lists
pub mod Cutting
pub mod Adding
pub mod Alike
pub mod Calls
pub mod Rereading
pub mod Giving
pub mod Using
pub mod Landing
pub mod Leading
pub mod Rows
pub mod Closing
pub mod Kept
