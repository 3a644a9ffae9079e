-- Ranges, one case more, and why they are the fewest.
pub mod Gathering
pub mod Fewest
pub mod CaseMaps
pub mod Tables
pub mod Searching
pub mod Separate
pub mod Keys
pub mod GreatestKey
