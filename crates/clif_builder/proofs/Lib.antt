pub mod Faults
pub mod LedgerLists
pub mod LedgerNames
pub mod Callers
pub mod Calls
pub mod BlockValues
pub mod LedgerKept
pub mod Placed
pub mod LedgerMade
pub mod LedgerUsed
pub mod Used
pub mod LedgerBlocks
pub mod LedgerLeads
pub mod LedgerBranched
pub mod LedgerBuilt
pub mod Sorts
pub mod LedgerShaped
pub mod LedgerVariables
pub mod LedgerEnds
pub mod Declaring
pub mod Growing
pub mod GoingOn
pub mod UsedAlike
pub mod Labelling
pub mod Laid
mod Fresh
pub mod Named
mod Appending
pub mod Statuses
pub mod StandingCallers
pub mod Standing
pub mod Redirected
pub mod StandingResults
pub mod Marking
pub mod Entries
pub mod TableCalls
pub mod Tabling
pub mod Touching
pub mod SealingAll
pub mod Finishing
pub mod StandingBuilt
pub mod StandingShaped
mod Remembered
pub mod Built
pub mod Parameters
pub mod Ordered
pub mod Framed
pub mod StandingParameters
pub mod Lasting
pub mod Tracking
mod Needing
pub mod Tracks
pub mod Counted
mod Made
pub mod Exactly
pub mod Ending
mod Fitting
pub mod Regions
mod Spilled
pub mod ReadByNumber
pub mod StandingForCalls
mod SealingAlone
pub mod Keeping
pub mod Adding
