pub mod Attributes
pub mod Numbers
pub mod Experts
pub mod Flags
pub mod Recipes
pub mod Commands
