pub mod Parts
pub mod Texts
pub mod Replies
pub mod Patterns
pub mod Requests
pub mod Lines
pub mod Greetings
