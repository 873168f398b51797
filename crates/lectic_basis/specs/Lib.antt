pub mod Rows
pub mod Entries
pub mod Trees
pub mod Walks
pub mod Watches
pub mod Forced
pub mod Steps
