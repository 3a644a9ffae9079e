pub mod SumRow
pub mod AcceptedScripts
pub mod CheckedFunctions
pub mod ZeroValues
pub mod CarriedFunctions
