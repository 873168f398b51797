pub mod Answers
pub mod Oracles
pub mod Runs
pub mod Counts
pub mod Intents
pub mod Indexed
