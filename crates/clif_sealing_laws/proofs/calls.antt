-- Lists of calls that differ only in when blocks are sealed: their ledgers, programs and tracked names, and so what is asked of
-- them and what they show.
pub mod Along
pub mod Ledgers
pub mod Programs
pub mod TrackedNames
pub mod Premises
