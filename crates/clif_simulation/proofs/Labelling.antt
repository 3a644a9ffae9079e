-- Which names and values move at an outside call.
pub mod Labels
pub mod EachGiven
pub mod FreshValues
pub mod GivenBy
pub mod Unmarked
pub mod Labelled
pub mod Outside
pub mod Moved
