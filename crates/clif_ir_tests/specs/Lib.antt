pub mod Recorder
pub mod Tables
