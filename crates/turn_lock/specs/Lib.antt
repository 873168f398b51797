pub mod Histories
pub mod Passes
pub mod Turns
pub mod Steps
pub mod Seats
