pub mod Closing
pub mod Concerns
