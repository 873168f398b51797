pub mod Starts
pub mod Explored
pub mod Surveyed
