-- Slots in memory: what accesses to them do, and what the collector by maps does.
pub mod Slots
pub mod Accesses
pub mod Reloading
pub mod Storing
pub mod Maps
