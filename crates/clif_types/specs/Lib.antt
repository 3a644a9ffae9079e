pub mod AliasRegions
pub mod EntitySet
pub mod MemFlags
pub mod Signature
pub mod StackSlot
pub mod Target
pub mod Texts
pub mod Types
