-- Names and their numbers.
pub mod Codes
-- When the entry is free.
pub mod FreeEntry
-- Instructions and their numbers.
pub mod Numbering
-- All that a function holds which carries calls.
pub mod Whole
-- No branch leads to any block.
pub mod Unbranched
-- What calls do to program and ledger, and what items give.
pub mod Listed
pub mod GivenNames
-- A function goes on to carry one more call.
pub mod Numbers
pub mod NameLists
mod Layouts
pub mod Extending
pub mod Places
pub mod ItemCalls
pub mod Growing
pub mod Carrying
pub mod Staying
pub mod Requests
pub mod Values
pub mod LedgerValues
pub mod Ledgers
pub mod Unfilled
pub mod Telling
pub mod Calls
pub mod ResultNames
pub mod Building
pub mod Beginning
-- Further calls, and parameters of the caller's.
pub mod Further
pub mod Appending
pub mod ParameterCalls
-- A finished function that carries calls means what their program means.
pub mod Finished
-- An unfinished function that carries calls reads right: without branches, and beside interrupted runs with any.
pub mod Unfinished
-- Which names and values move at an outside call.
pub mod Labelling
-- What is recorded for stack maps.
pub mod Tracking
-- What the construction makes of parameters and edges, and that functions are well placed.
pub mod Shape
-- A branch leads elsewhere.
pub mod Redirections
-- The row `both_arms`, which has a loop.
mod Loops
-- The other rows of the worked examples.
mod Rows
