pub mod Covering
pub mod Sparing
pub mod Ordering
pub mod Composing
