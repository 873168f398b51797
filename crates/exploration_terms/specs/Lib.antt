pub mod Settings
pub mod Recorded
