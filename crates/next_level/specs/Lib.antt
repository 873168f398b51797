pub mod NextLevel
pub mod Among
pub mod LevelWalks
pub mod Branches
pub mod Steps
pub mod Openings
