pub mod Left
pub mod Lines
pub mod Texts
pub mod Figures
pub mod Flags
pub mod Places
