pub mod Table
pub mod Generated
pub mod Recipes
pub mod Narrow
