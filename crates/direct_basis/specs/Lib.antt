pub mod Direct
pub mod Levels
