-- What the construction makes of parameters and edges, and that functions are well placed.
pub mod CallersAlone
pub mod EdgesMatching
pub mod CarriedStructure
mod Beside
pub mod Defined
pub mod RecordsDefined
