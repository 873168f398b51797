pub mod Nodes
pub mod Gatherings
pub mod Steps
